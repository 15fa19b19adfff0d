use Rattle.std.proofs.Common.{ℕ, refl, ap, get_or, arith}
use Rattle.key_tuple.specs.KeyPlace.{before}
use Rattle.map_history.specs.Operation.{Get}
use Rattle.map_history.specs.Reply.{MapReply, Value}
use Rattle.report_examples.specs.Samples.{row_life, line, a_key, value_y}
use Rattle.map_history.specs.Report.{unlearnt}
use Rattle.report_examples.specs.Spoilt.{other_value}
use Rattle.report_examples.proofs.spoilt.other_value_is_illegal.Goals as goal

-- the first byte of a value that is found
abbrev first_byte : MapReply → ℕ
first_byte (Value v) = get_or v 0 0
first_byte reply = 0

pub returns : goal.returns
unfolding before
returns c = λ sizes legal.
    let found = legal.answers 0 1 (line 2 (Get a_key)) (Value value_y) 1 unlearnt (record { line_there = (row_life, refl, refl); answer_there = (other_value, refl, refl) }) (λ e. cc) in
    omega (arith, ap first_byte found.reply_is)
