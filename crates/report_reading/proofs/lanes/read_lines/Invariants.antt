-- The answers so far, and those that are left, are what the lines are read to.
use Rattle.std.proofs.Common.{◌≡◌, drop}
use Rattle.map_history.specs.Lines.{line_texts}
use Rattle.report_forms.specs.Lists.{read_each}
use Rattle.report_forms.specs.Reports.{read_told}
use Rattle.report_reading.specs.Told.{lines_seen}
use Rattle.report_reading.proofs.LoopLemmas.{joined}
use Rattle.report_reading.proofs.lanes.read_lines.Given as goal

abbrev pub invariant-loop-place : goal.invariant-loop-place
invariant-loop-place l = joined (lines_seen l.told) (read_each (read_told l.fields) (line_texts (drop l.place l.lines)) l.text) ≡ read_each (read_told l.fields) (line_texts l.lines) l.fn.text
