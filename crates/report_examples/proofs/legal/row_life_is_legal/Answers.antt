use Rattle.std.proofs.Common.{refl, arith}
use Rattle.key_tuple.specs.KeyPlace.{before}
use Rattle.map_history.specs.Map.{Put, Del}
use Rattle.map_history.specs.Operation.{Make}
use Rattle.report_examples.specs.Samples.{row_life, row_life_told, row_life_made, line, made, a_key, value_x}
use Rattle.map_history.specs.Report.{unlearnt}
use Rattle.report_examples.proofs.OneLane.{is_legal}
use Rattle.report_examples.proofs.legal.row_life_is_legal.Goals as goal

pub returns : goal.returns
unfolding before
returns c = λ sizes. is_legal sizes row_life row_life_told row_life_made (record {
  form = (record { same_line = refl; form = refl }, (record { same_line = refl; form = refl }, (record { same_line = refl; form = refl }, (record { same_line = refl; form = refl }, tt))));
  counts = refl;
  lawful = (refl, (refl, tt));
  named = (
    record { lane = 0; place = 0; line = line 1 (Make (Put a_key value_x)); columns = unlearnt; answered = record { line_there = (row_life, refl, refl); answer_there = (row_life_told, refl, refl) }; same_lane = refl; same_line = refl; same_op = refl },
    (record { lane = 0; place = 2; line = line 3 (Make (Del a_key)); columns = unlearnt; answered = record { line_there = (row_life, refl, refl); answer_there = (row_life_told, refl, refl) }; same_lane = refl; same_line = refl; same_op = refl }, tt),
  );
  fits = (
    record { n = 0; entry = made 1 (Put a_key value_x); is_point = refl; there = refl; same_lane = refl; same_line = refl; same_change = refl },
    (
      record { within = omega arith; reply_is = refl },
      (
        record { n = 1; entry = made 3 (Del a_key); is_point = refl; there = refl; same_lane = refl; same_line = refl; same_change = refl },
        (record { within = omega arith; reply_is = refl }, tt),
      ),
    ),
  );
  first_index = (refl, (refl, (refl, (refl, tt))));
  order = ((omega arith, (omega arith, (omega arith, tt))), ((omega arith, (omega arith, tt)), ((omega arith, tt), (tt, tt))));
})
