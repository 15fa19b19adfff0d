use Rattle.learning.proofs.LearningLemmas.{confirmed}
use Rattle.learning.proofs.law.recommendations_are_confirmed.Goals as goal

pub returns : goal.returns
returns c = confirmed
