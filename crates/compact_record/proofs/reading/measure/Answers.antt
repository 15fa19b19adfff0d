use Rattle.std.proofs.Common.{ℕ, ◌+◌, ◌<◌, ◌≤◌, List, length, sym, ap, ◌∙◌, arith}
use Rattle.compact_record.specs.declared.TheConstants.{CHILD_BYTES}
use Rattle.compact_record.specs.declared.reading.Part.{Part}
use Rattle.compact_record.specs.Record.{PlacedRecord, length_bytes}
use Rattle.compact_record.specs.Reading.{record_at}
use Rattle.compact_record.proofs.ReadingLemmas.{kind_is, not_row, RowEnd, row_end, PointerEnd, pointer_end, top_of_part, part_there}
use Rattle.compact_record.proofs.reading.measure.Goals as goal
use Rattle.compact_record.proofs.reading.measure.Goals.{In-Row, In-Pointer}

row : (c : In-Row) → RowEnd c.args.page.now (record_at c.args.page.now c.args.place c.args.fields) c.part_at-tail.result
row c = row_end c.part_at-tail.result c.requires.there c.part_at-tail.ensures (kind_is c.args.page.now c.args.place c.args.fields ∙ sym c.kind_at.ensures ∙ c.in-Row.is)

pointer : (c : In-Pointer) → PointerEnd c.args.page.now (record_at c.args.page.now c.args.place c.args.fields) c.part_at-tail.result
pointer c =
    let kind = kind_is c.args.page.now c.args.place c.args.fields ∙ sym c.kind_at.ensures in
    pointer_end c.part_at-tail.result c.requires.there c.part_at-tail.ensures (not_row kind c.in-Pointer.is)

end_fits : {bytes : List ℕ} {r : PlacedRecord} {part : Part} → PointerEnd bytes r part → length bytes ≤ 65535 → part.from + CHILD_BYTES < 65536
end_fits e small =
    let end = e.end in
    let fits = e.fits in
    omega arith

pub get_length-len-requires-clause-there : goal.get_length-len-requires-clause-there
get_length-len-requires-clause-there c = (length (record_at c.args.page.now c.args.place c.args.fields).tail, (row c).there)

pub overflow_sub-result : goal.overflow_sub-result
overflow_sub-result c =
    let e = row (goal.at.overflow_sub-result c).In-Row in
    let len = c.get_length-len.ensures _ e.there in
    omega (arith, c.length_size.ensures, ap (λ (n : ℕ). length (length_bytes n)) len)

pub overflow_add-result : goal.overflow_add-result
overflow_add-result c =
    let e = row (goal.at.overflow_add-result c).In-Row in
    let len = c.get_length-len.ensures _ e.there in
    omega arith

pub overflow_cast-result-in-Row : goal.overflow_cast-result-in-Row
overflow_cast-result-in-Row c =
    let e = row (goal.at.overflow_cast-result-in-Row c).In-Row in
    let len = c.get_length-len.ensures _ e.there in
    omega arith

pub returns-in-Row-clause-start : goal.returns-in-Row-clause-start
returns-in-Row-clause-start c =
    let e = row (goal.at.returns-in-Row-clause-start c).In-Row in
    let len = c.get_length-len.ensures _ e.there in
    omega (arith, c.length_size.ensures, ap (λ (n : ℕ). length (length_bytes n)) len)

pub returns-in-Row-clause-end : goal.returns-in-Row-clause-end
returns-in-Row-clause-end c =
    let e = row (goal.at.returns-in-Row-clause-end c).In-Row in
    let len = c.get_length-len.ensures _ e.there in
    omega arith

pub get_length-len-requires-clause-room : goal.get_length-len-requires-clause-room
get_length-len-requires-clause-room c =
    let low = top_of_part c.args.fields c.part_at-tail.result c.requires.there c.part_at-tail.ensures in
    omega arith

pub overflow_cast-result : goal.overflow_cast-result
overflow_cast-result c =
    let e = row (goal.at.overflow_cast-result c).In-Row in
    let len = c.get_length-len.ensures _ e.there in
    omega (arith, c.length_size.ensures, ap (λ (n : ℕ). length (length_bytes n)) len)

pub overflow_cast-result-in-Pointer : goal.overflow_cast-result-in-Pointer
overflow_cast-result-in-Pointer c =
    let low = top_of_part c.args.fields c.part_at-tail.result c.requires.there c.part_at-tail.ensures in
    omega arith

pub overflow_add-result-in-Pointer : goal.overflow_add-result-in-Pointer
overflow_add-result-in-Pointer c =
    let tail = part_there c.args.fields c.part_at-tail.result c.requires.there c.part_at-tail.ensures (omega arith) in
    omega (arith, tail.within)

pub overflow_cast-result-in-Pointer-2 : goal.overflow_cast-result-in-Pointer-2
overflow_cast-result-in-Pointer-2 c =
    record { fits = end_fits (pointer (goal.at.overflow_cast-result-in-Pointer-2 c).In-Pointer) c.requires.page }

pub returns-in-Pointer : goal.returns-in-Pointer
returns-in-Pointer c =
    let e = pointer (goal.at.returns-in-Pointer c).In-Pointer in
    record { start = e.start; end = e.end }

pub part_at-tail-requires-clause-there : goal.part_at-tail-requires-clause-there
part_at-tail-requires-clause-there c = c.requires.there
