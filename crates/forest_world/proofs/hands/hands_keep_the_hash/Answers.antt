use Rattle.forest_world.proofs.HashHandLemmas.{hands_keep}
use Rattle.forest_world.proofs.hands.hands_keep_the_hash.Goals as goal

pub returns : goal.returns
returns c = hands_keep c.blocks_ask_the_same.ensures
