use Rattle.std.proofs.Common.{[], length, get_or, refl, arith}
use Rattle.compact_record.specs.Record.{parts_of}
use Rattle.compact_record.specs.Reading.{record_at}
use Rattle.compact_record.proofs.ReadingLemmas.{count_measured, length_of_part, top_of_part, next_part, part_there}
use Rattle.compact_record.proofs.reading.part_at.Goals as goal

pub get_length-len-requires-clause-room : goal.get_length-len-requires-clause-room
get_length-len-requires-clause-room c =
    let low = top_of_part c.loop.counter c.loop.part c.requires.there c.loop.invariant in
    omega arith

pub get_length-len-requires-clause-there : goal.get_length-len-requires-clause-there
get_length-len-requires-clause-there c =
    let r = record_at c.args.page.now c.args.place c.args.fields in
    (length (get_or (parts_of r) c.loop.counter []), length_of_part c.loop.counter c.loop.part c.requires.there c.loop.invariant (omega (arith, count_measured r.kind r.key r.tail)))

pub overflow_sub-part-in-loop : goal.overflow_sub-part-in-loop
overflow_sub-part-in-loop c =
    let r = record_at c.args.page.now c.args.place c.args.fields in
    let there = length_of_part c.loop.counter c.loop.part c.requires.there c.loop.invariant (omega (arith, count_measured r.kind r.key r.tail)) in
    rw (c.length_size.ensures, c.get_length-len.ensures (length (get_or (parts_of r) c.loop.counter [])) there) there.room

pub overflow_add-part : goal.overflow_add-part
overflow_add-part c =
    let r = record_at c.args.page.now c.args.place c.args.fields in
    let there = length_of_part c.loop.counter c.loop.part c.requires.there c.loop.invariant (omega (arith, count_measured r.kind r.key r.tail)) in
    let bytes = part_there c.loop.counter c.loop.part c.requires.there c.loop.invariant (omega arith) in
    let is = c.get_length-len.ensures (length (get_or (parts_of r) c.loop.counter [])) there in
    omega (arith, bytes.within)

pub loop-preserved : goal.loop-preserved
loop-preserved c =
    let r = record_at c.args.page.now c.args.place c.args.fields in
    let there = length_of_part c.loop.counter c.loop.part c.requires.there c.loop.invariant (omega (arith, count_measured r.kind r.key r.tail)) in
    let is = c.get_length-len.ensures (length (get_or (parts_of r) c.loop.counter [])) there in
    let size = c.length_size.ensures in
    next_part c.loop.counter c.get_length-len.result c.loop.part _ c.loop.invariant (omega arith) is (omega arith) refl
