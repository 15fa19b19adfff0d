use Rattle.std.proofs.Common.{refl, arith}
use Rattle.key_tuple.specs.KeyPlace.{before, not_below}
use Rattle.report_examples.proofs.scans.one_piece_is_a_scan.Goals as goal

pub returns : goal.returns
unfolding before not_below
returns c = (omega arith, refl, omega arith, λ left. refl)
