-- One answer more, or none.
use Rattle.std.proofs.Common.{ℕ, ap, arith}
use Rattle.map_history.specs.LegalReport.{columns_in}
use Rattle.map_history.specs.Lines.{line_text}
use Rattle.report_reading.specs.Told.{line_seen}
use Rattle.report_reading.proofs.CountLemmas.{counts_same, line_counted, pairs_taken}
use Rattle.report_reading.proofs.counts.count_lines.Goals as goal

pub loop-place-preserved : goal.loop-place-preserved
loop-place-preserved c =
    line_counted c.args.counts.now c.loop-place.counts c.count_answer.new.counts c.args.lines.now c.args.told.now c.loop-place.place c.index-index.result c.index-lines-place.result c.index-told-place.result
    (omega (arith, c.loop-place-test.true, c.min-place-end.ensures)) (omega (arith, c.loop-place-test.true, c.min-place-end.ensures)) c.index-index.ensures c.loop-place.invariant c.in_ok-count_answer.ensures

pub returns : goal.returns
returns c =
    counts_same c.args.counts.now c.loop-place.counts _ _ (λ (i : ℕ). ap (columns_in i) (pairs_taken line_text line_seen c.args.lines.now c.args.told.now c.loop-place.place (λ a b. omega (arith, a, b, c.loop-place-test.false, c.min-place-end.ensures)))) c.loop-place.invariant
