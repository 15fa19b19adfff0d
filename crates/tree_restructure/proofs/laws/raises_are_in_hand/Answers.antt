use Rattle.tree_restructure.proofs.RaiseLemmas.{raises_are_in_hand}
use Rattle.tree_restructure.proofs.laws.raises_are_in_hand.Goals as goal

pub returns : goal.returns
returns c = raises_are_in_hand
