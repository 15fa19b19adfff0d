use Rattle.std.proofs.Common.{refl}
use Rattle.key_tuple.specs.KeyPlace.{before}
use Rattle.map_history.specs.Operation.{Get}
use Rattle.map_history.specs.Reply.{Value}
use Rattle.report_examples.specs.Samples.{row_life, line, a_key, value_x}
use Rattle.map_history.specs.Report.{unlearnt}
use Rattle.report_examples.specs.Spoilt.{early_point}
use Rattle.report_examples.proofs.spoilt.early_point_is_illegal.Goals as goal

pub returns : goal.returns
unfolding before
returns c = λ sizes legal. cc ((legal.answers 0 1 (line 2 (Get a_key)) (Value value_x) 0 unlearnt (record { line_there = (row_life, refl, refl); answer_there = (early_point, refl, refl) }) (λ e. cc)).reply_is)
