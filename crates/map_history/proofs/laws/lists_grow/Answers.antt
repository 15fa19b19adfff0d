use Rattle.map_history.proofs.HistoryLemmas.{lawful-none, map_after-push, lawful-push, lawful-last, lawful-front}
use Rattle.map_history.proofs.laws.lists_grow.Goals as goal

pub returns : goal.returns
returns c = record { nothing = lawful-none; after = map_after-push; lawful = lawful-push; last = lawful-last; front = lawful-front }
