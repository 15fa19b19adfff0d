-- The lines so far and those that are left are all of them.
use Rattle.std.proofs.Common.{◌≡◌, ◌+◌, length}
use Rattle.audit_law.specs.TextLines.{ended_lines}
use Rattle.report_reading.proofs.text.count_lines.Given as goal

abbrev pub invariant-lines : goal.invariant-lines
invariant-lines l = l.count + length (ended_lines l.rest) ≡ length (ended_lines l.bytes)

abbrev pub decreases-lines : goal.decreases-lines
decreases-lines l = length (ended_lines l.rest)
