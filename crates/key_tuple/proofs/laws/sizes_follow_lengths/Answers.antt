use Rattle.key_tuple.proofs.SizeLemmas.{row_by_lengths, pointer_by_lengths}
use Rattle.key_tuple.proofs.laws.sizes_follow_lengths.Goals as goal

pub returns : goal.returns
returns c = record { row = row_by_lengths; pointer = pointer_by_lengths }
