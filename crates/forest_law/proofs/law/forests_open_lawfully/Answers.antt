use Rattle.forest_law.proofs.OpeningLemmas.{opens_lawfully}
use Rattle.forest_law.proofs.law.forests_open_lawfully.Goals as goal

pub returns : goal.returns
returns c = opens_lawfully
