use Rattle.std.proofs.Common.{◌≤◌, length, map, arith}
use Rattle.std.proofs.lemmas.List.{length-map}
use Rattle.std.proofs.lemmas.Result.{err_from_is_err_and}
use Rattle.change_log.specs.Log.{note_of}
use Rattle.report_text.specs.Printed.{noted_text}
use Rattle.report_print.proofs.LoopLemmas.{one_more, no_more, all_put}
use Rattle.report_print.proofs.PlaceLemmas.{note_there}
use Rattle.report_print.proofs.indexes.put_changes.Goals as goal

pub returns-in_err-put_change : goal.returns-in_err-put_change
returns-in_err-put_change g c =
    let p = err_from_is_err_and c.from_residual.result c.from_residual.ensures.1 in
    let there = note_there c.args.changes.now c.loop-change.change-index c.change-item.result c.loop-change-test.true c.change-item.is in
    rw (p.1, p.2) (no_more noted_text g.K.Sink _ _ _ (map note_of c.args.changes.now) c.loop-change.change-index (note_of c.change-item.result) c.in_err-put_change.field-0.0 there c.loop-change.invariant c.in_err-put_change.ensures)

pub loop-change-preserved : goal.loop-change-preserved
loop-change-preserved g c =
    let there = note_there c.args.changes.now c.loop-change.change-index c.change-item.result c.loop-change-test.true c.change-item.is in
    one_more noted_text g.K.Sink _ _ _ (map note_of c.args.changes.now) c.loop-change.change-index (note_of c.change-item.result) there c.loop-change.invariant c.in_ok-put_change.ensures

pub returns : goal.returns
returns g c =
    let past : length (map note_of c.args.changes.now) ≤ c.loop-change.change-index = omega (arith, length-map c.args.changes.now note_of, c.loop-change-test.false) in
    all_put noted_text g.K.Sink _ _ (map note_of c.args.changes.now) c.loop-change.change-index past c.loop-change.invariant
