use Rattle.forest_world.proofs.HandLemmas.{hands_make_steps}
use Rattle.forest_world.proofs.hands.hands_make_steps.Goals as goal

pub returns : goal.returns
returns c = hands_make_steps
