-- A value that isn't spelled, one that is too long, and one that is read.
use Rattle.std.proofs.lemmas.Result.{err_from_is_err_and}
use Rattle.report_reading.proofs.WordLemmas.{value_refused, value_long, value_read}
use Rattle.report_reading.proofs.rows.value_in.Goals as goal

pub returns-in_err-bytes : goal.returns-in_err-bytes
returns-in_err-bytes c =
    let p = err_from_is_err_and c.from_residual.result c.from_residual.ensures.1 in
    rw (p.1, p.2) (value_refused c.in_err-bytes.field-0.0 c.args.word.now c.in_err-bytes.ensures)

pub returns-in_err-value_within : goal.returns-in_err-value_within
returns-in_err-value_within c =
    let p = err_from_is_err_and c.from_residual-in_err-value_within.result c.from_residual-in_err-value_within.ensures.1 in
    rw (p.1, p.2) (value_long c.in_err-value_within.field-0.0 c.args.word.now c.in_ok-bytes.bytes.items c.in_ok-bytes.ensures c.in_err-value_within.ensures)

pub returns : goal.returns
returns c = value_read c.args.word.now c.in_ok-bytes.bytes.items c.in_ok-value_within.field-0 c.in_ok-bytes.ensures c.in_ok-value_within.ensures
