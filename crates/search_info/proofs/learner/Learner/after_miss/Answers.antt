use Rattle.list_facts.proofs.Places.{there}
use Rattle.search_info.proofs.learner.Learner.after_miss.Goals as goal

pub after-requires-clause-event : goal.after-requires-clause-event
after-requires-clause-event c = let s = there c.args.self.now.settings.starts.items c.args.index c.requires.index in (s.0, s.1, tt)

pub returns-clause-did : goal.returns-clause-did
returns-clause-did c = c.after.ensures.did
