use Rattle.std.proofs.Common.{take}
use Rattle.std.specs.List.{concat}
use Rattle.compact_record.specs.Bytes.{PutsPart}
use Rattle.compact_record.proofs.writing.put_fields.Given as goal

-- the fields so far are written
abbrev pub invariant-loop-i : goal.invariant-loop-i
invariant-loop-i g l = PutsPart l.initial.page l.page (concat (take l.i (g.A.Fields.fields_of l.key))) l.start l.at
