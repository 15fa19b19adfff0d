-- The parts so far, and those that are left, are what the lines are read to.
use Rattle.std.proofs.Common.{◌≡◌, drop, map}
use Rattle.std.specs.Prelude.{string_bytes}
use Rattle.std.specs.List.{zip}
use Rattle.report_forms.specs.Lists.{read_each}
use Rattle.report_reading.specs.Entries.{entries_seen, read_part}
use Rattle.report_reading.proofs.LoopLemmas.{joined}
use Rattle.report_reading.proofs.entries.read_parts.Given as goal

abbrev pub invariant-loop-index : goal.invariant-loop-index
invariant-loop-index l = joined (map entries_seen l.parts.items) (read_each read_part (zip (map string_bytes (drop l.index l.names)) (drop l.index l.fields)) l.text) ≡ read_each read_part (zip (map string_bytes l.names) l.fields) l.fn.text
