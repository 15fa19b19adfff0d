use Rattle.forest_law.proofs.WorldLemmas.{references_last}
use Rattle.forest_law.proofs.law.references_last.Goals as goal

pub returns : goal.returns
returns c = references_last
