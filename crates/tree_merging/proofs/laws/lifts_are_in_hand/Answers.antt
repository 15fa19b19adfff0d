use Rattle.tree_merging.proofs.LiftLemmas.{lifts_are_in_hand}
use Rattle.tree_merging.proofs.laws.lifts_are_in_hand.Goals as goal

pub returns : goal.returns
returns c = lifts_are_in_hand
