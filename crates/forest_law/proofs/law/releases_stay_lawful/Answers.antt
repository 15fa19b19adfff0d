use Rattle.forest_law.proofs.WorldLemmas.{releases_stay_lawful}
use Rattle.forest_law.proofs.law.releases_stay_lawful.Goals as goal

pub returns : goal.returns
returns c = releases_stay_lawful
