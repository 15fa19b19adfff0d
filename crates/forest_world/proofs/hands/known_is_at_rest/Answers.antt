use Rattle.forest_world.proofs.HandLemmas.{known_is_at_rest}
use Rattle.forest_world.proofs.hands.known_is_at_rest.Goals as goal

pub returns : goal.returns
returns c = known_is_at_rest
