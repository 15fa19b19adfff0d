use Rattle.std.proofs.Common.{map}
use Rattle.std.specs.String.{string_bytes}
use Rattle.std.proofs.lemmas.Result.{err_from_is_err_and}
use Rattle.change_log.specs.Merge.{note_lists}
use Rattle.report_print.proofs.ReportLemmas.{first_halts, lanes_halt, indexes_halt, statistics_halt, report_put}
use Rattle.report_print.proofs.report.put_report.Goals as goal

pub returns-in_err-put_first_line : goal.returns-in_err-put_first_line
returns-in_err-put_first_line g c =
    let names = map string_bytes c.args.names.now in
    let p = err_from_is_err_and c.from_residual.result c.from_residual.ensures.1 in
    rw (p.1, p.2) (first_halts g.K.Sink names c.args.answers.now (note_lists c.args.changes.now) c.args.counts.now _ _ c.in_err-put_first_line.field-0.0 c.in_err-put_first_line.ensures)

pub returns-in_err-put_lanes : goal.returns-in_err-put_lanes
returns-in_err-put_lanes g c =
    let names = map string_bytes c.args.names.now in
    let p = err_from_is_err_and c.from_residual-in_err-put_lanes.result c.from_residual-in_err-put_lanes.ensures.1 in
    rw (p.1, p.2) (lanes_halt g.K.Sink names c.args.answers.now (note_lists c.args.changes.now) c.args.counts.now _ _ c.in_ok-put_first_line.ensures _ c.in_err-put_lanes.field-0.0 c.in_err-put_lanes.ensures)

pub returns-in_err-put_indexes : goal.returns-in_err-put_indexes
returns-in_err-put_indexes g c =
    let names = map string_bytes c.args.names.now in
    let p = err_from_is_err_and c.from_residual-in_err-put_indexes.result c.from_residual-in_err-put_indexes.ensures.1 in
    rw (p.1, p.2) (indexes_halt g.K.Sink names c.args.answers.now (note_lists c.args.changes.now) c.args.counts.now _ _ c.in_ok-put_first_line.ensures _ c.in_ok-put_lanes.ensures _ c.in_err-put_indexes.field-0.0 c.in_err-put_indexes.ensures)

pub returns-in_err-put_statistics : goal.returns-in_err-put_statistics
returns-in_err-put_statistics g c =
    let names = map string_bytes c.args.names.now in
    let p = err_from_is_err_and c.from_residual-in_err-put_statistics.result c.from_residual-in_err-put_statistics.ensures.1 in
    rw (p.1, p.2) (statistics_halt g.K.Sink names c.args.answers.now (note_lists c.args.changes.now) c.args.counts.now _ _ c.in_ok-put_first_line.ensures _ c.in_ok-put_lanes.ensures _ c.in_ok-put_indexes.ensures _ c.in_err-put_statistics.field-0.0 c.in_err-put_statistics.ensures)

pub returns : goal.returns
returns g c = report_put g.K.Sink (map string_bytes c.args.names.now) c.args.answers.now (note_lists c.args.changes.now) c.args.counts.now _ _ c.in_ok-put_first_line.ensures _ c.in_ok-put_lanes.ensures _ c.in_ok-put_indexes.ensures _ _ c.put_end.result c.in_ok-put_statistics.ensures c.put_end.ensures
