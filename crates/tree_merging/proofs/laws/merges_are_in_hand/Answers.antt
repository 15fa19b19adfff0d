use Rattle.tree_merging.proofs.MergeLemmas.{merges_are_in_hand}
use Rattle.tree_merging.proofs.laws.merges_are_in_hand.Goals as goal

pub returns : goal.returns
returns c = merges_are_in_hand
