use Rattle.tree_law.proofs.search.ranges_are_picked.Goals as goal
use Rattle.tree_law.proofs.PickLemmas.{ranges_are_picked}

pub returns : goal.returns
returns c = ranges_are_picked
