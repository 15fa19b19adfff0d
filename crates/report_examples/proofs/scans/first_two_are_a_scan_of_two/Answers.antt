use Rattle.std.proofs.Common.{refl, arith}
use Rattle.key_tuple.specs.KeyPlace.{before, not_below}
use Rattle.report_examples.proofs.scans.first_two_are_a_scan_of_two.Goals as goal

pub returns : goal.returns
unfolding before not_below
returns c = (omega arith, refl, omega arith, λ left. absurd (omega (arith, left)))
