use Rattle.key_tuple.proofs.SizeLemmas.{row_limited, pointer_limited}
use Rattle.key_tuple.proofs.laws.sizes_are_limited.Goals as goal

pub returns : goal.returns
returns c = record { row = row_limited; pointer = pointer_limited }
