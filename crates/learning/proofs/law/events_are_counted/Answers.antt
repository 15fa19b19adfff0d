use Rattle.learning.proofs.LearningLemmas.{events_after}
use Rattle.learning.proofs.law.events_are_counted.Goals as goal

pub returns : goal.returns
returns c = events_after
