-- A byte that stands for itself, an escape, or what is neither.
use Rattle.std.proofs.Common.{sym, ◌∙◌, arith}
use Rattle.script.proofs.Runs.{plain_first, escape_first, no_digits}
use Rattle.script.proofs.field.first_byte.Goals as goal

pub returns-in-len1-up : goal.returns-in-len1-up
returns-in-len1-up c = plain_first c.args.text.now c.requires (sym c.if-stands_alone.ensures)

pub returns-in_ok-escaped-in-37 : goal.returns-in_ok-escaped-in-37
returns-in_ok-escaped-in-37 c =
    escape_first c.args.text.now c.in_ok-escaped-in-37.field-0 (omega arith) (omega arith) (sym c.escaped.ensures ∙ c.in_ok-escaped-in-37.was)

pub returns-in_err-escaped-in-37 : goal.returns-in_err-escaped-in-37
returns-in_err-escaped-in-37 c =
    rw c.from_residual.ensures (no_digits c.args.text.now (omega arith) (omega arith) (sym c.escaped.ensures ∙ c.in_err-escaped-in-37.was))
