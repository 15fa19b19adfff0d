use Rattle.std.proofs.lemmas.Result.{err_from_is_err_and}
use Rattle.gen_print.proofs.TextLemmas.{first_halts, lanes_halt, rows_halt, text_put}
use Rattle.gen_print.proofs.printing.put_generated.Goals as goal

pub returns-in_err-put_first_line : goal.returns-in_err-put_first_line
returns-in_err-put_first_line g c =
    let p = err_from_is_err_and c.from_residual.result c.from_residual.ensures.1 in
    rw (p.1, p.2) (first_halts g.K.Sink c.args.generated.now _ _ c.in_err-put_first_line.field-0.0 c.in_err-put_first_line.ensures)

pub returns-in_err-put_lanes : goal.returns-in_err-put_lanes
returns-in_err-put_lanes g c =
    let p = err_from_is_err_and c.from_residual-in_err-put_lanes.result c.from_residual-in_err-put_lanes.ensures.1 in
    rw (p.1, p.2) (lanes_halt g.K.Sink c.args.generated.now _ _ _ c.in_err-put_lanes.field-0.0 c.in_ok-put_first_line.ensures c.in_err-put_lanes.ensures)

pub returns-in_err-put_rows : goal.returns-in_err-put_rows
returns-in_err-put_rows g c =
    let p = err_from_is_err_and c.from_residual-in_err-put_rows.result c.from_residual-in_err-put_rows.ensures.1 in
    rw (p.1, p.2) (rows_halt g.K.Sink c.args.generated.now _ _ _ _ c.in_err-put_rows.field-0.0 c.in_ok-put_first_line.ensures c.in_ok-put_lanes.ensures c.in_err-put_rows.ensures)

pub returns : goal.returns
returns g c = text_put g.K.Sink c.args.generated.now _ _ _ _ _ c.put_end.result c.in_ok-put_first_line.ensures c.in_ok-put_lanes.ensures c.in_ok-put_rows.ensures c.put_end.ensures
