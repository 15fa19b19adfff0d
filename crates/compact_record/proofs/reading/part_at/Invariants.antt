use Rattle.compact_record.specs.Reading.{record_at, IsPart}
use Rattle.compact_record.proofs.reading.part_at.Given as goal

-- the part after those that were passed
abbrev pub invariant-loop : goal.invariant-loop
invariant-loop l = IsPart (record_at l.page l.place l.fields) l.counter l.part
