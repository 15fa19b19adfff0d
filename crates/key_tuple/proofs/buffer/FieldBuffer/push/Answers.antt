use Rattle.std.proofs.Common.{◌≡◌, ◌+◌, ◌<◌, ◌∷◌, [], ◌++◌, length, ap, ◌∙◌, sym, arith, length-append, List, ℕ, take, subst}
use Rattle.std.proofs.Math.ListN.{length-set}
use Rattle.key_tuple.specs.Order.{byte_count}
use Rattle.std.specs.Vec.{vec_capacity}
use Rattle.key_tuple.specs.Parts.{Buffered}
use Rattle.key_tuple.proofs.PartsLemmas.{rises_after, parts_after, length-view, byte_count-view}
use Rattle.key_tuple.specs.Parts.{RiseTo}
use Rattle.key_tuple.proofs.buffer.FieldBuffer.push.Goals as goal

pub returns-in_err-extend_from_slice-clause-fits : goal.returns-in_err-extend_from_slice-clause-fits
returns-in_err-extend_from_slice-clause-fits c fits =
    let count = byte_count-view c.self.inside.bytes.items c.self.inside.ends c.self.inside.count c.self.invariant.rise in
    let view : byte_count c.args.self.now.fields ≡ length c.self.inside.bytes.items = ap (λ (b : Buffered). byte_count b.fields) (sym c.self.view_is) ∙ count in
    let room : c.args.self.now.room ≡ vec_capacity c.self.inside.bytes = ap (λ (b : Buffered). b.room) (sym c.self.view_is) in
    let full = c.in_err-extend_from_slice.ensures.full in
    absurd (omega (arith, c.self.inside.bytes.ok.0))

pub overflow_cast-self : goal.overflow_cast-self
overflow_cast-self c =
    let count = byte_count-view c.self.inside.bytes.items c.self.inside.ends c.self.inside.count c.self.invariant.rise in
    let view : byte_count c.args.self.now.fields ≡ length c.self.inside.bytes.items = ap (λ (b : Buffered). byte_count b.fields) (sym c.self.view_is) ∙ count in
    let len = c.in_ok-extend_from_slice.ensures.len in
    omega (arith, c.self.inside.bytes.ok.0, c.len.ensures, c.requires.short)

-- the number of fields is below the number of offsets
pub below_room : (c : goal.After-self-1) → c.self.inside.count < length c.self.inside.ends
below_room c =
    let slots = length-view c.self.inside.bytes.items c.self.inside.ends c.self.inside.count (omega (arith, c.self.invariant.offsets, c.self.invariant.few)) in
    let view : length c.args.self.now.fields ≡ c.self.inside.count = ap (λ (b : Buffered). length b.fields) (sym c.self.view_is) ∙ slots in
    omega (arith, c.self.invariant.offsets, c.requires.slot)

-- the bytes as they are after the field is there
pub end_after : (c : goal.After-self-1) → c.len.result ≡ length c.self.inside.bytes.items + length c.args.field.now
end_after c = omega (arith, c.len.ensures, c.in_ok-extend_from_slice.ensures.len, c.self.inside.bytes.ok.0)

pub invariant_of-self-2 : goal.invariant_of-self-2
invariant_of-self-2 c =
    let below = below_room c in
    let end = end_after c in
    let view : byte_count c.args.self.now.fields ≡ length c.self.inside.bytes.items = ap (λ (b : Buffered). byte_count b.fields) (sym c.self.view_is) ∙ byte_count-view c.self.inside.bytes.items c.self.inside.ends c.self.inside.count c.self.invariant.rise in
    let bytes : length c.extend_from_slice.new.self.items ≡ c.len.result = ap length c.in_ok-extend_from_slice.ensures.items ∙ length-append c.self.inside.bytes.items c.args.field.now ∙ sym end in
    let rises = rises_after c.self.inside.bytes.items c.args.field.now c.self.inside.ends c.self.inside.count c.len.result below end c.self.invariant.rise in
    record { offsets = simp length-set c.self.told; few = omega (arith, c.self.told); short = omega (arith, c.requires.short); rise = rw (bytes, c.from.ensures) rises }

pub returns-clause-ok : goal.returns-clause-ok
returns-clause-ok c =
    let after = parts_after c.self.inside.bytes.items c.args.field.now c.self.inside.ends c.self.inside.count c.len.result (below_room c) (end_after c) c.self.invariant.rise in
    let view = ap (λ (b : Buffered). b.fields) c.self.view_is in
    rw (c.in_ok-extend_from_slice.ensures.items, c.from.ensures) (after ∙ ap (λ fields. fields ++ c.args.field.now ∷ []) view)

pub bounds-self-inside-from : goal.bounds-self-inside-from
bounds-self-inside-from c =
    let slots = length-view c.self.inside.bytes.items c.self.inside.ends c.self.inside.count (omega (arith, c.self.invariant.offsets, c.self.invariant.few)) in
    let view : length c.args.self.now.fields ≡ c.self.inside.count = ap (λ (b : Buffered). length b.fields) (sym c.self.view_is) ∙ slots in
    omega (arith, c.requires.slot, view, c.from.ensures)

pub invariant_of-self : goal.invariant_of-self
invariant_of-self c = let same = c.in_err-extend_from_slice.ensures.items in record {
  offsets = c.self.invariant.offsets;
  few = c.self.invariant.few;
  short = omega (arith, ap length same, c.self.invariant.short);
  rise = subst (λ (bytes : List ℕ). RiseTo 0 (take c.self.inside.count c.self.inside.ends) (length bytes)) (sym same) c.self.invariant.rise;
}

pub returns-clause-room : goal.returns-clause-room
returns-clause-room c =
    let room : c.args.self.now.room ≡ vec_capacity c.self.inside.bytes = ap (λ (b : Buffered). b.room) (sym c.self.view_is) in
    omega (arith, room, c.in_ok-extend_from_slice.ensures.capacity)
