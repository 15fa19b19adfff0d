use Rattle.leaf_rows.proofs.SetLemmas.{values_are_set}
use Rattle.leaf_rows.proofs.laws.values_are_set.Goals as goal

pub returns : goal.returns
returns c = values_are_set
