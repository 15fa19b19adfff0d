-- A record whose bytes are copied to the first of others.
use Rattle.std.proofs.Common.{◌≡◌, ℕ, ◌+◌, ◌-◌, ◌*◌, ◌/◌, ◌<◌, ◌≤◌, List, ◌++◌, length, slice_index, slice_range, sym, ap, ap₂, subst, ◌∙◌, arith, length-append}
use Rattle.std.specs.List.{concat}
use Rattle.std.proofs.lemmas.List.{places}
use Rattle.std.proofs.lemmas.List.Edits.{length-between}
use Rattle.compact_record.specs.declared.TheConstants.{HEAD_BYTES}
use Rattle.compact_record.specs.Bytes.{u16_at, SpellsAt}
use Rattle.compact_record.specs.Record.{PlacedRecord, origin, finish, measured_parts, lengths_bytes}
use Rattle.compact_record.specs.Copying.{placed_from}
use Rattle.compact_record.specs.Reading.{IsRecordAt}
use Rattle.compact_record.proofs.PartLemmas.{length-concat}

-- the first bytes of the new are those of the old from `from` on
pub record Copies (old new : List ℕ) (from size : ℕ) : Type 0 where
  pub each : (k : ℕ) → k < size → slice_index new k ≡ slice_index old (from + k)

pub copies : (old new : List ℕ) (from size : ℕ) → from + size ≤ length old → SpellsAt new 0 (slice_range old from (from + size)) → Copies old new from size
copies old new from size fits s = record {
  each = λ k w.
      let e = s.each k (grind (arith, places)) in
      grind (arith, places, e);
}

spells_copied : {old new : List ℕ} {from size : ℕ} → Copies old new from size → (at at' : ℕ) (part : List ℕ) → at ≡ from + at' → at' + length part ≤ size → SpellsAt old at part → SpellsAt new at' part
spells_copied {old} {new} {from} c at at' part is fits s = record {
  each = λ k w.
      let same : from + (at' + k) ≡ at + k = omega arith in
      c.each (at' + k) (omega arith) ∙ ap (slice_index old) same ∙ s.each k w;
}

u16_copied : {old new : List ℕ} {from size : ℕ} → Copies old new from size → (at at' : ℕ) → at ≡ from + at' → at' + 2 ≤ size → u16_at new at' ≡ u16_at old at
u16_copied {old} {new} {from} c at at' is fits =
    let one : from + at' ≡ at = omega arith in
    let two : from + (at' + 1) ≡ at + 1 = omega arith in
    ap₂ (λ (x y : ℕ). x * 256 + y) (c.each at' (omega arith) ∙ ap (slice_index old) one) (c.each (at' + 1) (omega arith) ∙ ap (slice_index old) two)

-- the record stands there
pub record_copied : (old new : List ℕ) (place fields size : ℕ) (r : PlacedRecord) → IsRecordAt old place fields r → finish r ≡ r.start + size → Copies old new r.start size → size ≤ length new
    → IsRecordAt new (place - r.start) fields (placed_from 0 r)
record_copied old new place fields size r s is c room =
    let lengths = lengths_bytes (measured_parts r) in
    let body = length-append (concat r.key) r.tail ∙ ap (λ (n : ℕ). n + length r.tail) (length-concat r.key) in
    let here = s.here in
    let head : origin r - HEAD_BYTES ≡ r.start + (origin (placed_from 0 r) - HEAD_BYTES) = omega arith in
    record {
      stands = record {
        fits = omega arith;
        lengths = spells_copied c r.start 0 lengths (omega arith) (omega arith) s.stands.lengths;
        info = ap (λ (n : ℕ). n / 16) (c.each (origin (placed_from 0 r) - HEAD_BYTES) (omega arith) ∙ ap (slice_index old) (omega (arith, head))) ∙ s.stands.info;
        number = u16_copied c (origin r - 4) (origin (placed_from 0 r) - 4) (omega arith) (omega arith) ∙ s.stands.number;
        body = spells_copied c (origin r) (origin (placed_from 0 r)) (concat r.key ++ r.tail) (omega arith) (omega arith) s.stands.body;
      };
      sound = record { number = s.sound.number; key = s.sound.key; tail = s.sound.tail; child = s.sound.child };
      here = omega arith;
      count = s.count;
    }

-- the same by what the copying tells
pub copy_made : (old new to part : List ℕ) (place fields start end from size : ℕ) (r : PlacedRecord) → IsRecordAt old place fields r → start ≡ r.start → end ≡ finish r → from ≡ start → size ≡ end - start
    → part ≡ slice_range old from (from + size) → SpellsAt new 0 part → length new ≡ length to → finish r ≤ r.start + length to → IsRecordAt new (place - start) fields (placed_from 0 r)
copy_made old new to part place fields start end from size r s start_is end_is from_is size_is part_is spells len room =
    let fits = s.stands.fits in
    let begin : from ≡ r.start = from_is ∙ start_is in
    let made : Copies old new from size = copies old new from size (omega arith) (subst (SpellsAt new 0) part_is spells) in
    subst (λ (x : ℕ). IsRecordAt new (place - x) fields (placed_from 0 r)) (sym start_is)
    (record_copied old new place fields size r s (omega arith) (subst (λ (x : ℕ). Copies old new x size) begin made) (omega arith))

-- there is room for the part that is copied
pub part_fits : (old to part : List ℕ) (start end from size : ℕ) (r : PlacedRecord) → finish r ≤ length old → start ≡ r.start → end ≡ finish r → from ≡ start → size ≡ end - start
    → part ≡ slice_range old from (from + size) → finish r ≤ r.start + length to → 0 + length part ≤ length to
part_fits old to part start end from size r fits start_is end_is from_is size_is part_is room =
    let len : length part ≡ from + size - from = ap length part_is ∙ length-between old from (from + size) (omega arith) in
    omega arith
