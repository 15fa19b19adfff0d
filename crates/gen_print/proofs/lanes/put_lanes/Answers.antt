use Rattle.std.proofs.Common.{arith}
use Rattle.std.specs.List.{enumerate_from}
use Rattle.std.proofs.lemmas.List.FromFn.{length-enumerate_from}
use Rattle.std.proofs.lemmas.Result.{err_from_is_err_and}
use Rattle.report_print.proofs.LoopLemmas.{one_more, no_more, all_put}
use Rattle.gen_print.specs.Texts.{replies_line}
use Rattle.gen_print.proofs.PlaceLemmas.{lane_there}
use Rattle.gen_print.proofs.lanes.put_lanes.Goals as goal

pub returns-in_err-put_lane : goal.returns-in_err-put_lane
returns-in_err-put_lane g c =
    let p = err_from_is_err_and c.from_residual.result c.from_residual.ensures.1 in
    let there = lane_there c.args.replies.now c.loop-i.i _ c.loop-i-test.true in
    rw (p.1, p.2) (no_more replies_line g.K.Sink _ _ _ (enumerate_from 1 c.args.replies.now) c.loop-i.i _ c.in_err-put_lane.field-0.0 there c.loop-i.invariant c.in_err-put_lane.ensures)

pub loop-i-preserved : goal.loop-i-preserved
loop-i-preserved g c =
    let there = lane_there c.args.replies.now c.loop-i.i _ c.loop-i-test.true in
    one_more replies_line g.K.Sink _ _ _ (enumerate_from 1 c.args.replies.now) c.loop-i.i _ there c.loop-i.invariant c.in_ok-put_lane.ensures

pub returns : goal.returns
returns g c = all_put replies_line g.K.Sink _ _ (enumerate_from 1 c.args.replies.now) c.loop-i.i (omega (arith, length-enumerate_from 1 c.args.replies.now, c.loop-i-test.false)) c.loop-i.invariant
