use Rattle.std.proofs.Common.{ℕ, ◌≤◌, [], length, get_or, ap, sym, subst, ◌∙◌, arith}
use Rattle.compact_record.specs.Record.{PlacedRecord, parts_of}
use Rattle.compact_record.specs.Reading.{record_at}
use Rattle.compact_record.proofs.ReadingLemmas.{PointerEnd, pointer_end, not_row, tail_measured, tail_of}
use Rattle.compact_record.proofs.record_ref.RecordRef.tail.Goals as goal
use Rattle.compact_record.proofs.record_ref.RecordRef.tail.Goals.{After-part_at-tail}

pointer : (c : After-part_at-tail) → PointerEnd c.self.inside.page.now (record_at c.self.inside.page.now c.self.inside.place c.self.inside.fields) c.part_at-tail.result
pointer c =
    let kind = ap (λ (x : PlacedRecord). x.kind) c.self.view_is ∙ sym c.kind.ensures in
    pointer_end c.part_at-tail.result c.self.invariant c.part_at-tail.ensures (not_row kind c.in-Pointer.is)

pub returns-in-Pointer : goal.returns-in-Pointer
returns-in-Pointer c =
    let e = pointer (goal.at.returns-in-Pointer c).After-part_at-tail in
    let tail = c.get_bytes.ensures ∙ e.tail in
    record {
      tail = tail ∙ ap (λ (x : PlacedRecord). x.tail) c.self.view_is;
      child = λ other. ap length tail ∙ e.size;
    }

all_fields : (n : ℕ) → n ≤ n
all_fields n = omega arith

pub measured_part-requires-clause-measured : goal.measured_part-requires-clause-measured
measured_part-requires-clause-measured c =
    tail_measured c.self.invariant (ap (λ (x : PlacedRecord). x.kind) c.self.view_is ∙ sym c.kind.ensures ∙ c.in-Row.is)

pub get_bytes-requires : goal.get_bytes-requires
get_bytes-requires c =
    let e = pointer (goal.at.get_bytes-requires c).After-part_at-tail in
    subst (λ (n : ℕ). n ≤ length c.self.inside.page.now) (sym e.end) e.fits

pub returns-in-Row-clause-tail : goal.returns-in-Row-clause-tail
returns-in-Row-clause-tail c =
    let r = record_at c.self.inside.page.now c.self.inside.place c.self.inside.fields in
    c.measured_part.ensures ∙ ap (λ (n : ℕ). get_or (parts_of r) n []) (sym c.self.invariant.count) ∙ tail_of r
    ∙ ap (λ (x : PlacedRecord). x.tail) c.self.view_is

pub part_at-tail-requires : goal.part_at-tail-requires
part_at-tail-requires c = record { there = c.self.invariant; number = all_fields c.self.inside.fields }

pub measured_part-requires-clause-there : goal.measured_part-requires-clause-there
measured_part-requires-clause-there c = c.self.invariant
