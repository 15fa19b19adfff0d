use Rattle.forest_law.proofs.WorldLemmas.{answers_stay_right}
use Rattle.forest_law.proofs.law.answers_stay_right.Goals as goal

pub returns : goal.returns
returns c = answers_stay_right
