-- Slots that move on or back by one, one after another.
use Rattle.std.proofs.Common.{◌≡◌, ℕ, ◌+◌, ◌-◌, ◌*◌, ◌<◌, ◌≤◌, List, inl, inr, ap, ◌∙◌, sym, arith}
use Rattle.std.proofs.lemmas.Bool.{cases_lt}
use Rattle.compact_record.specs.Bytes.{SameOutside}
use Rattle.compact_record.proofs.BytesLemmas.{u16_kept}
use Rattle.page_mirror.specs.Words.{slot_word}
use Rattle.page_mirror.specs.Slots.{MovesOn, OpensSlot, MovesBack, ClosesSlot}

-- a slot before one that is written stays
slot_before : {b1 b2 : List ℕ} (i k : ℕ) → SameOutside b1 b2 (16374 - 2 * i) (16376 - 2 * i) → k < i → i < 8150 → slot_word b2 k ≡ slot_word b1 k
slot_before i k kept below few = u16_kept kept (16374 - 2 * k) (inr (omega arith))

-- one slot more has moved
pub moves_on_back : {b0 b1 b2 : List ℕ} (s i word : ℕ) → MovesBack b0 b1 s i → s + 1 ≤ i → i < 8150 → word ≡ slot_word b1 i → slot_word b2 (i - 1) ≡ word → SameOutside b1 b2 (16374 - 2 * (i - 1)) (16376 - 2 * (i - 1)) → MovesBack b0 b2 s (i + 1)
moves_on_back {b0} {b1} {b2} s i word so_far low few read written kept = record {
  moved = λ k from below. elim (cases_lt (k + 1) i) [
    | inl before ↦ slot_before (i - 1) k kept (omega arith) (omega arith) ∙ so_far.moved k from before
    | inr not_before ↦ last k (omega arith)
  ];
  kept = record {
    len = kept.len ∙ so_far.kept.len;
    below = λ k h. kept.below k (omega arith) ∙ so_far.kept.below k (omega arith);
    above = λ k h. kept.above k (omega arith) ∙ so_far.kept.above k (omega arith);
  };
}
  where
    last : (k : ℕ) → k + 1 ≡ i → slot_word b2 k ≡ slot_word b0 (k + 1)
    last k e =
        let here : k ≡ i - 1 = omega arith in
        ap (slot_word b2) here ∙ written ∙ read ∙ ap (slot_word b1) (sym e) ∙ u16_kept so_far.kept (16374 - 2 * (k + 1)) (inl (omega arith))

-- all have moved, and the last one is cleared
pub last_is_cleared : {b0 b1 b2 : List ℕ} (s i count : ℕ) → MovesBack b0 b1 s i → i ≡ count → s < count → count < 8150 → slot_word b2 (count - 1) ≡ 0 → SameOutside b1 b2 (16374 - 2 * (count - 1)) (16376 - 2 * (count - 1)) → ClosesSlot b0 b2 count s
last_is_cleared s i count so_far end low few gone kept = record {
  moved = λ k from below. slot_before (count - 1) k kept (omega arith) (omega arith) ∙ so_far.moved k from (omega arith);
  gone = gone;
  kept = record {
    len = kept.len ∙ so_far.kept.len;
    below = λ k h. kept.below k (omega arith) ∙ so_far.kept.below k (omega arith);
    above = λ k h. kept.above k (omega arith) ∙ so_far.kept.above k (omega arith);
  };
}

-- a slot behind one that is written stays
slot_behind : {b1 b2 : List ℕ} (i k : ℕ) → SameOutside b1 b2 (16374 - 2 * i) (16376 - 2 * i) → i < k → k < 8150 → slot_word b2 k ≡ slot_word b1 k
slot_behind i k kept above few = u16_kept kept (16374 - 2 * k) (inl (omega arith))

-- one slot more has moved on
pub moves_on_more : {b0 b1 b2 : List ℕ} (i count word : ℕ) → MovesOn b0 b1 count i → 1 ≤ i → i ≤ count → count < 8149 → word ≡ slot_word b1 (i - 1) → slot_word b2 (i - 1 + 1) ≡ word → SameOutside b1 b2 (16374 - 2 * (i - 1 + 1)) (16376 - 2 * (i - 1 + 1)) → MovesOn b0 b2 count (i - 1)
moves_on_more {b0} {b1} {b2} i count word so_far some within few read written kept = record {
  moved = λ k from below. elim (cases_lt k i) [
    | inl before ↦ first k (omega arith)
    | inr behind ↦ slot_behind (i - 1 + 1) (k + 1) kept (omega arith) (omega arith) ∙ so_far.moved k behind below
  ];
  kept = record {
    len = kept.len ∙ so_far.kept.len;
    below = λ k h. kept.below k (omega arith) ∙ so_far.kept.below k h;
    above = λ k h. kept.above k (omega arith) ∙ so_far.kept.above k (omega arith);
  };
}
  where
    first : (k : ℕ) → k ≡ i - 1 → slot_word b2 (k + 1) ≡ slot_word b0 k
    first k here =
        ap (λ (x : ℕ). slot_word b2 (x + 1)) here ∙ written ∙ read ∙ ap (slot_word b1) (sym here)
        ∙ u16_kept so_far.kept (16374 - 2 * k) (inr (omega arith))

-- all have moved on, and the slot that is free names this origin
pub slot_is_open : {b0 b1 b2 : List ℕ} (s i count : ℕ) {at : ℕ} → MovesOn b0 b1 count i → i ≡ s → s ≤ count → count < 8149 → slot_word b2 s ≡ at → SameOutside b1 b2 (16374 - 2 * s) (16376 - 2 * s) → OpensSlot b0 b2 count s at
slot_is_open s i count so_far end within few here kept = record {
  moved = λ k from below. slot_behind s (k + 1) kept (omega arith) (omega arith) ∙ so_far.moved k (omega arith) below;
  here = here;
  kept = record {
    len = kept.len ∙ so_far.kept.len;
    below = λ k h. kept.below k (omega arith) ∙ so_far.kept.below k h;
    above = λ k h. kept.above k (omega arith) ∙ so_far.kept.above k (omega arith);
  };
}
