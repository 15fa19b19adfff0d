-- The rows so far, and those that are left, are what the lines are read to.
use Rattle.std.proofs.Common.{◌≡◌, ◌-◌}
use Rattle.report_forms.specs.Lists.{read_each, numbers_from}
use Rattle.report_forms.specs.Scans.{read_row}
use Rattle.report_reading.proofs.LoopLemmas.{joined}
use Rattle.report_reading.proofs.pieces.read_rows.Given as goal

abbrev pub invariant-loop : goal.invariant-loop
invariant-loop l = joined l.rows (read_each (λ _. read_row l.fields) (numbers_from l.counter (l.count - l.counter)) l.text) ≡ read_each (λ _. read_row l.fields) (numbers_from 0 l.count) l.fn.text
