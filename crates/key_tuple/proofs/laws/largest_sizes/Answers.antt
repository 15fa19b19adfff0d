use Rattle.std.proofs.Common.{refl}
use Rattle.key_tuple.proofs.laws.largest_sizes.Goals as goal

pub returns : goal.returns
returns c = record { row = refl; pointer = refl; row_charge = refl; pointer_charge = refl }
