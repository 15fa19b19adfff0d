use Rattle.std.proofs.Common.{None, [], refl}
use Rattle.key_tuple.specs.KeyPlace.{before, not_below}
use Rattle.map_history.specs.Operation.{Scan}
use Rattle.report_examples.specs.Samples.{line}
use Rattle.report_examples.specs.ScanSamples.{puts_and_scan, puts_and_scan_told, other_way_round}
use Rattle.report_examples.proofs.Unequal.{unequal}
use Rattle.report_examples.proofs.scans.puts_and_other_way_round_are_illegal.Goals as goal

pub returns : goal.returns
unfolding before not_below
returns c = λ sizes legal.
    let scan = legal.scans 0 3 (line 4 (Scan [] None 9)) other_way_round (record { line_there = (puts_and_scan, refl, refl); answer_there = (puts_and_scan_told other_way_round, refl, refl) }) in
    unequal _ _ (scan.1) refl
