-- A row without a value, and one that is read.
use Rattle.std.proofs.lemmas.Result.{err_from_is_err_and}
use Rattle.script.specs.Pieces.{pieces_left}
use Rattle.report_reading.proofs.WordLemmas.{row_refused, row_read}
use Rattle.report_reading.proofs.rows.row_in.Goals as goal

pub returns-in_err-value : goal.returns-in_err-value
returns-in_err-value c =
    let p = err_from_is_err_and c.from_residual-in_err-value.result c.from_residual-in_err-value.ensures.1 in
    rw (p.1, p.2) (row_refused c.args.fields (pieces_left c.args.words) c.in-Some.key.now c.in-Some.value.now c.in_ok-key.key.tuple c.in_err-value.field-0.0 c.in-Some.ensures c.in_ok-key.ensures c.in_err-value.ensures)

pub returns : goal.returns
returns c =
    row_read c.args.fields (pieces_left c.args.words) c.in-Some.key.now c.in-Some.value.now c.in_ok-key.key.tuple c.in_ok-value.value c.in-Some.ensures c.in_ok-key.ensures c.in_ok-value.ensures
