-- The entries so far, and those that are left, are what the lines are read to.
use Rattle.std.proofs.Common.{◌≡◌, ◌+◌, ◌-◌}
use Rattle.report_forms.specs.Entries.{read_entry}
use Rattle.report_forms.specs.Lists.{read_each, numbers_from}
use Rattle.report_reading.specs.Entries.{entries_seen}
use Rattle.report_reading.proofs.LoopLemmas.{joined}
use Rattle.report_reading.proofs.entries.take_entries.Given as goal

abbrev pub invariant-loop-done : goal.invariant-loop-done
invariant-loop-done l = joined (entries_seen l.entries) (read_each (read_entry l.fields) (numbers_from (l.done + 1) (l.count - l.done)) l.text) ≡ read_each (read_entry l.fields) (numbers_from 1 l.count) l.fn.text
