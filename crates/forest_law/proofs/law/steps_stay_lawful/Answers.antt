use Rattle.forest_law.proofs.WorldLemmas.{steps_stay_lawful}
use Rattle.forest_law.proofs.law.steps_stay_lawful.Goals as goal

pub returns : goal.returns
returns c = steps_stay_lawful
