use Rattle.forest_law.proofs.RestructureLemmas.{restructures_follow}
use Rattle.forest_law.proofs.steps.restructures_follow.Goals as goal

pub returns : goal.returns
returns c = restructures_follow
