use Rattle.std.proofs.Common.{[], length, get_or, arith, ◌∙◌}
use Rattle.compact_record.specs.Record.{parts_of}
use Rattle.compact_record.specs.Reading.{record_at}
use Rattle.compact_record.proofs.ReadingLemmas.{length_of_part, top_of_part, part_there, spells_range}
use Rattle.compact_record.proofs.reading.measured_part.Goals as goal

pub get_length-len-requires-clause-room : goal.get_length-len-requires-clause-room
get_length-len-requires-clause-room c =
    let low = top_of_part c.args.number c.part_at-part.result c.requires.there c.part_at-part.ensures in
    omega arith

pub get_length-len-requires-clause-there : goal.get_length-len-requires-clause-there
get_length-len-requires-clause-there c =
    let r = record_at c.args.page.now c.args.place c.args.fields in
    (length (get_or (parts_of r) c.args.number []), length_of_part c.args.number c.part_at-part.result c.requires.there c.part_at-part.ensures c.requires.measured)

pub get_bytes-requires : goal.get_bytes-requires
get_bytes-requires c =
    let r = record_at c.args.page.now c.args.place c.args.fields in
    let is = c.get_length-len.ensures _ (length_of_part c.args.number c.part_at-part.result c.requires.there c.part_at-part.ensures c.requires.measured) in
    let bytes = part_there c.args.number c.part_at-part.result c.requires.there c.part_at-part.ensures c.requires.number in
    rw is bytes.within

pub returns : goal.returns
returns c =
    let r = record_at c.args.page.now c.args.place c.args.fields in
    let is = c.get_length-len.ensures _ (length_of_part c.args.number c.part_at-part.result c.requires.there c.part_at-part.ensures c.requires.measured) in
    let bytes = part_there c.args.number c.part_at-part.result c.requires.there c.part_at-part.ensures c.requires.number in
    c.get_bytes.ensures ∙ rw is (spells_range c.args.page.now c.part_at-part.result.from (get_or (parts_of r) c.args.number []) bytes.spells bytes.within)

pub part_at-part-requires-clause-there : goal.part_at-part-requires-clause-there
part_at-part-requires-clause-there c = c.requires.there
