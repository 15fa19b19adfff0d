use Rattle.std.proofs.lemmas.Result.{err_from_is_err_and}
use Rattle.std.specs.List.{concat}
use Rattle.report_print.specs.Texts.{lane_line}
use Rattle.report_print.proofs.PrintLemmas.{then_put, halted}
use Rattle.report_print.proofs.lanes.put_lane.Goals as goal

pub returns-in_err-put_lane_line : goal.returns-in_err-put_lane_line
returns-in_err-put_lane_line g c =
    let p = err_from_is_err_and c.from_residual.result c.from_residual.ensures.1 in
    rw (p.1, p.2) (halted g.K.Sink _ _ (lane_line c.args.number) (concat c.args.answers.now) c.in_err-put_lane_line.field-0.0 c.in_err-put_lane_line.ensures)

pub returns : goal.returns
returns g c = then_put g.K.Sink _ _ _ (lane_line c.args.number) (concat c.args.answers.now) c.put_answers.result c.in_ok-put_lane_line.ensures c.put_answers.ensures
