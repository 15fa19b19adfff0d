use Rattle.std.proofs.Common.{Some}
use Rattle.search_info.proofs.learner.Learner.exchange.Given as goal

abbrev pub ghosts-exchange_at : goal.ghosts-exchange_at
ghosts-exchange_at a = record { event = Some a.event.now }
