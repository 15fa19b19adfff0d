use Rattle.forest_law.proofs.WorldLemmas.{takes_stay_lawful}
use Rattle.forest_law.proofs.law.takes_stay_lawful.Goals as goal

pub returns : goal.returns
returns c = takes_stay_lawful
