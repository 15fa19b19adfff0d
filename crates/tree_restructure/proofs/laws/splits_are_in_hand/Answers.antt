use Rattle.tree_restructure.proofs.SplitLemmas.{splits_are_in_hand}
use Rattle.tree_restructure.proofs.laws.splits_are_in_hand.Goals as goal

pub returns : goal.returns
returns c = splits_are_in_hand
