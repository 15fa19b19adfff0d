use Rattle.gen_law.proofs.KeyLemmas.{own_keys}
use Rattle.gen_law.proofs.drawing.lanes_have_their_own_keys.Goals as goal

pub returns : goal.returns
returns c = own_keys
