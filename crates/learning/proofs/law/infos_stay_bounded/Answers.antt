use Rattle.learning.proofs.LearningLemmas.{learn_bounded}
use Rattle.learning.proofs.law.infos_stay_bounded.Goals as goal

pub returns : goal.returns
returns c = learn_bounded
