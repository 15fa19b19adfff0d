use Rattle.std.proofs.Common.{refl, arith, codes}
use Rattle.key_tuple.specs.KeyPlace.{before, not_below}
use Rattle.map_history.specs.Map.{Put}
use Rattle.map_history.specs.Operation.{Make}
use Rattle.report_examples.specs.Samples.{line, made}
use Rattle.map_history.specs.Report.{unlearnt}
use Rattle.report_examples.specs.ScanSamples.{ab, a_zero, a_empty, puts_and_scan, puts_and_scan_told, puts_made, in_one_piece}
use Rattle.report_examples.proofs.OneLane.{is_legal}
use Rattle.report_examples.proofs.scans.puts_and_scan_are_legal.Goals as goal

pub returns : goal.returns
unfolding before not_below
returns c = λ sizes. is_legal sizes puts_and_scan (puts_and_scan_told in_one_piece) puts_made (record {
  form = (record { same_line = refl; form = refl }, (record { same_line = refl; form = refl }, (record { same_line = refl; form = refl }, (record { same_line = refl; form = refl }, tt))));
  counts = refl;
  lawful = (refl, (refl, (refl, tt)));
  named = (
    record { lane = 0; place = 0; line = line 1 (Make (Put ab (codes "1"))); columns = unlearnt; answered = record { line_there = (puts_and_scan, refl, refl); answer_there = (puts_and_scan_told in_one_piece, refl, refl) }; same_lane = refl; same_line = refl; same_op = refl },
    (
      record { lane = 0; place = 1; line = line 2 (Make (Put a_zero (codes "2"))); columns = unlearnt; answered = record { line_there = (puts_and_scan, refl, refl); answer_there = (puts_and_scan_told in_one_piece, refl, refl) }; same_lane = refl; same_line = refl; same_op = refl },
      (record { lane = 0; place = 2; line = line 3 (Make (Put a_empty (codes "3"))); columns = unlearnt; answered = record { line_there = (puts_and_scan, refl, refl); answer_there = (puts_and_scan_told in_one_piece, refl, refl) }; same_lane = refl; same_line = refl; same_op = refl }, tt),
    ),
  );
  fits = (
    record { n = 0; entry = made 1 (Put ab (codes "1")); is_point = refl; there = refl; same_lane = refl; same_line = refl; same_change = refl },
    (
      record { n = 1; entry = made 2 (Put a_zero (codes "2")); is_point = refl; there = refl; same_lane = refl; same_line = refl; same_change = refl },
      (
        record { n = 2; entry = made 3 (Put a_empty (codes "3")); is_point = refl; there = refl; same_lane = refl; same_line = refl; same_change = refl },
        ((omega arith, refl, omega arith, λ left. refl), tt),
      ),
    ),
  );
  first_index = (refl, (refl, (refl, (refl, tt))));
  order = ((omega arith, (omega arith, (omega arith, tt))), ((omega arith, (omega arith, tt)), ((omega arith, tt), (tt, tt))));
})
