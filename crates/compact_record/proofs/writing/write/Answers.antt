use Rattle.std.proofs.Common.{arith}
use Rattle.compact_record.specs.Record.{placed}
use Rattle.compact_record.proofs.PartLemmas.{length-concat}
use Rattle.compact_record.proofs.WritingLemmas.{parts_write, length-measured}
use Rattle.compact_record.proofs.writing.write.Goals as goal

pub put_tail_length-key_start-requires-clause-room : goal.put_tail_length-key_start-requires-clause-room
put_tail_length-key_start-requires-clause-room g c =
    omega (arith, length-measured c.args.head.kind (g.A.Fields.fields_of c.args.key.now) c.args.tail.now)

pub put_key_lengths-top-requires-clause-room : goal.put_key_lengths-top-requires-clause-room
put_key_lengths-top-requires-clause-room g c =
    omega (arith, length-measured c.args.head.kind (g.A.Fields.fields_of c.args.key.now) c.args.tail.now)

pub put_head-place-requires-clause-room : goal.put_head-place-requires-clause-room
put_head-place-requires-clause-room g c =
    omega (arith, length-measured c.args.head.kind (g.A.Fields.fields_of c.args.key.now) c.args.tail.now)

pub put_fields-tail_start-requires : goal.put_fields-tail_start-requires
put_fields-tail_start-requires g c =
    omega (arith, length-measured c.args.head.kind (g.A.Fields.fields_of c.args.key.now) c.args.tail.now, length-concat (g.A.Fields.fields_of c.args.key.now))

pub put_bytes-requires : goal.put_bytes-requires
put_bytes-requires g c =
    omega (arith, length-measured c.args.head.kind (g.A.Fields.fields_of c.args.key.now) c.args.tail.now, length-concat (g.A.Fields.fields_of c.args.key.now))

pub overflow_cast-result : goal.overflow_cast-result
overflow_cast-result g c =
    omega (arith, length-measured c.args.head.kind (g.A.Fields.fields_of c.args.key.now) c.args.tail.now)

pub returns-clause-place : goal.returns-clause-place
returns-clause-place g c =
    omega (arith, length-measured c.args.head.kind (g.A.Fields.fields_of c.args.key.now) c.args.tail.now)

pub returns-clause-writes : goal.returns-clause-writes
returns-clause-writes g c = parts_write {r = placed c.args.start c.args.head (g.A.Fields.fields_of c.args.key.now) c.args.tail.now} (record {
  fits = c.requires.room;
  first = rw c.from.ensures at c.put_tail_length-key_start.ensures;
  lengths = c.put_key_lengths-top.ensures;
  from_is = c.put_head-place.ensures.end;
  info = c.put_head-place.ensures.info;
  owned = c.put_head-place.ensures.owned;
  number = c.put_head-place.ensures.number;
  next = c.put_head-place.ensures.next;
  head = c.put_head-place.ensures.kept;
  key = c.put_fields-tail_start.ensures;
  tail = c.put_bytes.ensures.spells;
  last = c.put_bytes.ensures.kept;
})

pub put_key_lengths-top-requires-clause-small : goal.put_key_lengths-top-requires-clause-small
put_key_lengths-top-requires-clause-small g c = c.requires.record.key
