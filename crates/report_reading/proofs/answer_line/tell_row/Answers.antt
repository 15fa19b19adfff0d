-- A point, a key and a value.
use Rattle.std.proofs.Common.{refl, sym}
use Rattle.std.proofs.lemmas.Result.{err_from_is_err_and}
use Rattle.report_reading.specs.Columns.{columns_seen}
use Rattle.report_reading.proofs.AnswerToldLemmas.{row_of, row_unkeyed, row_none}
use Rattle.report_reading.proofs.answer_line.tell_row.Goals as goal

pub returns-in_default : goal.returns-in_default
returns-in_default c = rw (row_of c.args.fields c.args.key.now c.args.value.now c.args.point.now (columns_seen c.args.columns), sym c.in_default.ensures) refl

pub returns-in_err-key : goal.returns-in_err-key
returns-in_err-key c =
    let p = err_from_is_err_and c.from_residual.result c.from_residual.ensures.1 in
    rw (p.1, p.2) (row_unkeyed c.args.fields c.args.key.now c.args.value.now c.args.point.now (columns_seen c.args.columns) c.in_err-key.field-0.0 c.in_err-key.ensures)

pub returns-in_err-value : goal.returns-in_err-value
returns-in_err-value c =
    let p = err_from_is_err_and c.from_residual-in_err-value.result c.from_residual-in_err-value.ensures.1 in
    rw (p.1, p.2) (row_none c.args.fields c.args.key.now c.args.value.now c.args.point.now (columns_seen c.args.columns) c.in_err-value.field-0.0 c.in_err-value.ensures)

pub returns : goal.returns
returns c = rw (row_of c.args.fields c.args.key.now c.args.value.now c.args.point.now (columns_seen c.args.columns), sym c.in-Some.ensures, c.in_ok-key.ensures, c.in_ok-value.ensures) refl
