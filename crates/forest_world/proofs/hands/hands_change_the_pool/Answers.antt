use Rattle.forest_world.proofs.HandLemmas.{hands_change_the_pool}
use Rattle.forest_world.proofs.hands.hands_change_the_pool.Goals as goal

pub returns : goal.returns
returns c = hands_change_the_pool
