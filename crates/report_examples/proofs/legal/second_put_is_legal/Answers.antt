use Rattle.std.proofs.Common.{refl, arith}
use Rattle.key_tuple.specs.KeyPlace.{before}
use Rattle.map_history.specs.Map.{Put}
use Rattle.map_history.specs.Operation.{Make}
use Rattle.report_examples.specs.Samples.{second_put, second_put_told, second_put_made, line, made, a_key, value_x}
use Rattle.map_history.specs.Report.{unlearnt}
use Rattle.report_examples.proofs.OneLane.{is_legal}
use Rattle.report_examples.proofs.legal.second_put_is_legal.Goals as goal

pub returns : goal.returns
unfolding before
returns c = λ sizes. is_legal sizes second_put second_put_told second_put_made (record {
  form = (record { same_line = refl; form = refl }, (record { same_line = refl; form = refl }, tt));
  counts = refl;
  lawful = (refl, tt);
  named = (record { lane = 0; place = 0; line = line 1 (Make (Put a_key value_x)); columns = unlearnt; answered = record { line_there = (second_put, refl, refl); answer_there = (second_put_told, refl, refl) }; same_lane = refl; same_line = refl; same_op = refl }, tt);
  fits = (
    record { n = 0; entry = made 1 (Put a_key value_x); is_point = refl; there = refl; same_lane = refl; same_line = refl; same_change = refl },
    (record { within = omega arith; reply_is = refl }, tt),
  );
  first_index = (refl, (refl, tt));
  order = ((omega arith, tt), (tt, tt));
})
