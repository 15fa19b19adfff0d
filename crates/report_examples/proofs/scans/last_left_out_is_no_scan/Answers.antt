use Rattle.std.proofs.Common.{refl, arith}
use Rattle.key_tuple.specs.KeyPlace.{before, not_below}
use Rattle.report_examples.proofs.Unequal.{unequal}
use Rattle.report_examples.proofs.scans.last_left_out_is_no_scan.Goals as goal

pub returns : goal.returns
unfolding before not_below
returns c = λ scan. unequal _ _ (scan.3 (omega arith)) refl
