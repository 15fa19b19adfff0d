-- One lane more, or none that can stand.
use Rattle.std.proofs.Common.{◌≡◌, ◌+◌, List, [], ◌∷◌, ◌++◌, drop, map, sym, subst}
use Rattle.std.proofs.lemmas.Result.{err_from_is_err_and}
use Rattle.std.proofs.lemmas.List.{map_push}
use Rattle.std.specs.List.{enumerate_from}
use Rattle.map_history.specs.Report.{AnswerLine}
use Rattle.report_forms.specs.Lists.{read_each}
use Rattle.report_forms.specs.Reports.{read_lane}
use Rattle.report_reading.specs.Told.{lines_seen, lane_asked}
use Rattle.report_reading.proofs.LoopLemmas.{joined, each_goes_on, each_stops, lane_next}
use Rattle.report_reading.proofs.lanes.read_lanes.Goals as goal

pub returns-in_err-lines : goal.returns-in_err-lines
returns-in_err-lines c =
    let p = err_from_is_err_and c.from_residual.result c.from_residual.ensures.1 in
    let i = c.loop-lane.lane in
    let next = lane_next c.args.lanes.now i c.index-lanes-lane.result c.deref.result.now c.loop-lane-test.true c.index-lanes-lane.is c.deref.ensures.value in
    rw (p.1, p.2) (each_stops (read_lane c.args.fields.now) (map lines_seen c.loop-lane.told.items) (enumerate_from i (map lane_asked (drop i c.args.lanes.now))) _ _ c.loop-lane.text c.read_lane.new.text c.in_err-lines.field-0.0 _
    next c.in_err-lines.ensures c.loop-lane.invariant)

pub loop-lane-preserved : goal.loop-lane-preserved
loop-lane-preserved c =
    let i = c.loop-lane.lane in
    let lines = lines_seen c.in_ok-lines.lines in
    let next = lane_next c.args.lanes.now i c.index-lanes-lane.result c.deref.result.now c.loop-lane-test.true c.index-lanes-lane.is c.deref.ensures.value in
    let more = each_goes_on (read_lane c.args.fields.now) (map lines_seen c.loop-lane.told.items) (enumerate_from i (map lane_asked (drop i c.args.lanes.now))) _ _ c.loop-lane.text c.read_lane.new.text lines _
    next c.in_ok-lines.ensures c.loop-lane.invariant in
    let grown : map lines_seen c.push.new.self.items ≡ map lines_seen c.loop-lane.told.items ++ lines ∷ [] = rw c.in_ok-push.ensures.items (map_push _ c.loop-lane.told.items c.in_ok-lines.lines) in
    subst (λ (front : List (List AnswerLine)). joined front (read_each (read_lane c.args.fields.now) (enumerate_from (i + 1) (map lane_asked (drop (i + 1) c.args.lanes.now))) c.read_lane.new.text)
    ≡ read_each (read_lane c.args.fields.now) (enumerate_from 0 (map lane_asked c.args.lanes.now)) c.args.text.now) (sym grown) more
