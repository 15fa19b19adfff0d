use Rattle.forest_law.proofs.HolderLemmas.{outside_is_held}
use Rattle.forest_law.proofs.law.outside_is_held.Goals as goal

pub returns : goal.returns
returns c = outside_is_held
