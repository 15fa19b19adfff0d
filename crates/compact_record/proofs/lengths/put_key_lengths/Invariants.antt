use Rattle.std.proofs.Common.{drop}
use Rattle.compact_record.specs.Bytes.{PutsPart}
use Rattle.compact_record.specs.Record.{lengths_bytes}
use Rattle.compact_record.proofs.lengths.put_key_lengths.Given as goal

-- the lengths from field i on are written
abbrev pub invariant-loop-i : goal.invariant-loop-i
invariant-loop-i g l = PutsPart l.initial.page l.page (lengths_bytes (drop l.i (g.A.Fields.fields_of l.key))) l.start l.at
