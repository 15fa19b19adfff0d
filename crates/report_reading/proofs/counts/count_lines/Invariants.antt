-- The answers so far are counted.
use Rattle.std.proofs.Common.{map, take}
use Rattle.std.specs.List.{zip}
use Rattle.map_history.specs.LegalReport.{columns_in}
use Rattle.map_history.specs.Lines.{line_texts}
use Rattle.report_reading.specs.Counts.{CountsMore}
use Rattle.report_reading.specs.Told.{line_seen}
use Rattle.report_reading.proofs.counts.count_lines.Given as goal

abbrev pub invariant-loop-place : goal.invariant-loop-place
invariant-loop-place l = CountsMore l.fn.counts l.counts (λ i. columns_in i (take l.place (zip (line_texts l.lines) (map line_seen l.told))))
