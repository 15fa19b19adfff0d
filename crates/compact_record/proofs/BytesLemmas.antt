-- What a write to a part of a page leaves as it was.
use Rattle.std.proofs.Common.{◌≡◌, ℕ, ◌+◌, ◌-◌, ◌*◌, ◌≤◌, List, ◌∷◌, ◌++◌, length, take, drop, slice_index, refl, sym, ap, ap₂, ◌∙◌, arith, length-append, length-take-le, ◌⊎◌, inl, inr}
use Rattle.std.proofs.lemmas.List.{places, get_or_append_left, get_or-append-add}
use Rattle.std.proofs.lemmas.Bool.{cases_lt}
use borrow.Rule.Slice.PartMut.{put_mid, post_of}
use Rattle.compact_record.specs.Bytes.{u16_at, SameOutside, SpellsAt}

-- a write of `part` at the start of `xs[a..]`
pub same_outside_write : (xs part ys : List ℕ) (a n : ℕ) → a + n ≤ length xs → length part ≡ n
    → ys ≡ part ++ drop n (take (length xs - a) (drop a xs)) → SameOutside xs (put_mid a (length xs - a) xs ys) a (a + n)
same_outside_write xs part ys a n fits size is =
    rw is (record {
      len = grind (arith, places);
      below = λ k h. grind (arith, places);
      above = λ k h. grind (arith, places);
    })

-- after `xs[a..a + n].copy_from_slice(part)`
pub same_outside_part : (a : ℕ) (xs ys part : List ℕ) → ys ≡ part → a + length part ≤ length xs
    → SameOutside xs (put_mid a (a + length part - a) xs ys) a (a + length part)
same_outside_part a xs ys part is fits =
    let k : a + length part - a ≡ length part = omega arith in
    rw (is, k) (record {
      len = grind (arith, places);
      below = λ i h. grind (arith, places);
      above = λ i h. grind (arith, places);
    })

pub spells_part : (a : ℕ) (xs ys part : List ℕ) → ys ≡ part → a + length part ≤ length xs
    → SpellsAt (put_mid a (a + length part - a) xs ys) a part
spells_part a xs ys part is fits =
    let k : a + length part - a ≡ length part = omega arith in
    rw (is, k) (record { each = λ i h. grind (arith, places) })

-- one change after another
pub outside-then : {a b c : List ℕ} {from mid to from' to' : ℕ} → from ≤ from' → mid ≤ to → to' ≤ to → SameOutside a b from mid → SameOutside b c from' to' → SameOutside a c from to
outside-then low high last s t = record {
  len = t.len ∙ s.len;
  below = λ k h. t.below k (omega arith) ∙ s.below k h;
  above = λ k h. t.above k (omega arith) ∙ s.above k (omega arith);
}

-- a string outside the write stays
pub spells_kept : {old new : List ℕ} {from to : ℕ} → SameOutside old new from to → (at : ℕ) (part : List ℕ)
    → (at + length part ≤ from) ⊎ (to ≤ at) → SpellsAt old at part → SpellsAt new at part
spells_kept same at part apart s = record {
  each = λ k h. elim apart [
    | inl low ↦ same.below (at + k) (omega arith) ∙ s.each k h
    | inr high ↦ same.above (at + k) (omega arith) ∙ s.each k h
  ];
}

-- one string after another
pub spells-append : (bytes : List ℕ) (at : ℕ) (xs ys : List ℕ) → SpellsAt bytes at xs → SpellsAt bytes (at + length xs) ys → SpellsAt bytes at (xs ++ ys)
spells-append bytes at xs ys s t = record {
  each = λ k h. elim (cases_lt k (length xs)) [
    | inl low ↦ s.each k low ∙ sym (get_or_append_left xs ys 0 k low)
    | inr high ↦ let e = t.each (k - length xs) (omega (arith, length-append xs ys)) in grind (arith, places, e)
  ];
}

-- the front of a string
pub spells_front : (bytes : List ℕ) (at : ℕ) (xs ys : List ℕ) → SpellsAt bytes at (xs ++ ys) → SpellsAt bytes at xs
spells_front bytes at xs ys s = record { each = λ k h. s.each k (omega (arith, length-append xs ys)) ∙ get_or_append_left xs ys 0 k h }

-- the end of a string
pub spells_end : (bytes : List ℕ) (at : ℕ) (xs ys : List ℕ) → SpellsAt bytes at (xs ++ ys) → SpellsAt bytes (at + length xs) ys
spells_end bytes at xs ys s = record {
  each = λ k h.
      let e = s.each (length xs + k) (omega (arith, length-append xs ys)) in
      grind (arith, places, e);
}

-- the number outside the write stays
pub u16_kept : {old new : List ℕ} {from to : ℕ} → SameOutside old new from to → (at : ℕ) → (at + 2 ≤ from) ⊎ (to ≤ at) → u16_at new at ≡ u16_at old at
u16_kept same at apart = elim apart [
  | inl low ↦ rw (same.below at (omega arith), same.below (at + 1) (omega arith)) refl
  | inr high ↦ rw (same.above at (omega arith), same.above (at + 1) (omega arith)) refl
]

-- the number of the two bytes at the start of `xs[a..]`
pub u16_written : (xs ys rest : List ℕ) (a x y : ℕ) → a + 2 ≤ length xs → ys ≡ x ∷ y ∷ rest → u16_at (put_mid a (length xs - a) xs ys) a ≡ x * 256 + y
u16_written xs ys rest a x y fits is =
    let front = take a xs in
    let behind = (x ∷ y ∷ rest) ++ post_of a (length xs - a) xs in
    let size : length front ≡ a = length-take-le a xs (omega arith) in
    let first : slice_index (front ++ behind) a ≡ x = ap (slice_index (front ++ behind)) (omega (arith, size)) ∙ get_or-append-add front behind 0 0 in
    let second : slice_index (front ++ behind) (a + 1) ≡ y = ap (slice_index (front ++ behind)) (omega (arith, size)) ∙ get_or-append-add front behind 1 0 in
    rw is (ap₂ (λ (m n : ℕ). m * 256 + n) first second)
