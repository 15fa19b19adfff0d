-- One lane more, or none.
use Rattle.std.proofs.Common.{◌≡◌, ℕ, ◌+◌, ◌∙◌, List, ◌++◌, length, drop, get_or, map, take, Vec, ap, sym, subst, arith}
use Rattle.std.proofs.Math.Seq.{take-append_seam}
use Rattle.std.specs.List.{flat_map, zip}
use Rattle.std.specs.declared.alloc.Global.{Global}
use Rattle.column_counts.specs.Counted.{AreCounts}
use Rattle.column_counts.proofs.SumLemmas.{counts_as}
use Rattle.map_history.specs.declared.line.Line.{Line}
use Rattle.map_history.specs.LegalReport as asked
use Rattle.map_history.specs.LegalReport.{columns_in}
use Rattle.map_history.specs.Lines.{line_texts}
use Rattle.map_history.specs.Report.{AnswerLine}
use Rattle.report_reading.specs.declared.told.ReadLine.{ReadLine}
use Rattle.report_reading.specs.Told.{line_seen, lines_seen, lane_asked}
use Rattle.report_reading.proofs.CountLemmas.{counts_same, lane_counted, pairs_taken}
use Rattle.report_reading.proofs.counts.count_lanes.Goals as goal

pub loop-lane-preserved : goal.loop-lane-preserved
loop-lane-preserved c =
    let lane = c.loop-lane.lane in
    let old = c.loop-lane.counts.items in
    let new = c.count_lines.new.counts in
    let its_lines : Vec Line Global = get_or c.args.lanes.now lane c.index-lanes-lane.result in
    let its_told : Vec ReadLine Global = get_or c.args.told.now lane c.index-told-lane.result in
    let lines : line_texts c.deref.result.now ≡ lane_asked its_lines = ap line_texts c.deref.ensures.value ∙ ap lane_asked c.index-lanes-lane.is in
    let told : map line_seen c.deref-in-loop-lane.result.now ≡ lines_seen its_told = ap (map line_seen) c.deref-in-loop-lane.ensures.value ∙ ap lines_seen c.index-told-lane.is in
    let more = counts_same c.deref_mut.result.now new (λ (i : ℕ). columns_in i (zip (line_texts c.deref.result.now) (map line_seen c.deref-in-loop-lane.result.now))) (λ (i : ℕ). columns_in i (zip (lane_asked its_lines) (lines_seen its_told)))
    (λ (i : ℕ). ap (λ (ls : List asked.Line). columns_in i (zip ls (map line_seen c.deref-in-loop-lane.result.now))) lines ∙ ap (λ (ts : List AnswerLine). columns_in i (zip (lane_asked its_lines) ts)) told) c.in_ok-count_lines.ensures in
    let before = subst (AreCounts c.args.indexes (λ i. flat_map (λ (x : List asked.Line × List AnswerLine). columns_in i (zip x.0 x.1)) (take lane (zip (map lane_asked c.args.lanes.now) (map lines_seen c.args.told.now))))) (sym c.deref_mut.ensures.value) c.loop-lane.invariant in
    let counted = lane_counted c.args.indexes c.deref_mut.result.now new c.args.lanes.now c.args.told.now lane c.index-lanes-lane.result c.index-told-lane.result
    (omega (arith, c.loop-lane-test.true, c.min-lane-end.ensures)) (omega (arith, c.loop-lane-test.true, c.min-lane-end.ensures)) before more in
    let long : c.loop-lane.counts.len ≡ length new = omega (arith, counted.long, c.loop-lane.invariant.long, c.loop-lane.counts.ok.0) in
    let written = ap (λ n. take n (new ++ drop (length new) old)) long ∙ take-append_seam new (drop (length new) old) in
    subst (AreCounts c.args.indexes (λ i. flat_map (λ (x : List asked.Line × List AnswerLine). columns_in i (zip x.0 x.1)) (take (lane + 1) (zip (map lane_asked c.args.lanes.now) (map lines_seen c.args.told.now))))) (sym written) counted

pub returns : goal.returns
returns c =
    counts_as c.args.indexes _ _ c.loop-lane.counts.items (λ (i : ℕ). ap (flat_map (λ (x : List asked.Line × List AnswerLine). columns_in i (zip x.0 x.1)))
    (pairs_taken lane_asked lines_seen c.args.lanes.now c.args.told.now c.loop-lane.lane (λ a b. omega (arith, a, b, c.loop-lane-test.false, c.min-lane-end.ensures)))) c.loop-lane.invariant
