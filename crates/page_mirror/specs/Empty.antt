-- The page without rows.
use Rattle.std.specs.Prelude.{◌≡◌, ℕ, ◌<◌, ◌≤◌, List, [], ◌∷◌, nat_eq, slice_index, if◌then◌else◌}
use Rattle.compact_record.specs.Bytes.{SameOutside}
use Rattle.page_mirror.specs.Cells.{infimum, supremum}
use Rattle.page_mirror.specs.Mirror.{Mirror}

-- infimum, which leads to supremum, each alone in its slot; around the head these bytes stay
abbrev pub empty_mirror : List ℕ → Mirror
empty_mirror bytes = record {
  count = 2;
  cell = λ h. if nat_eq h 0 then infimum else supremum;
  next = λ h. 1;
  owned = λ h. 1;
  slots = 0 ∷ 1 ∷ [];
  top = 120;
  free = 0;
  garbage = 0;
  rows = 0;
  fixed = λ k. slice_index bytes k;
}

-- the bytes from 38 up to 48: two slots, HEAP_TOP, two heap numbers, no free list and no garbage
abbrev pub empty_numbers : List ℕ
empty_numbers = 0 ∷ 2 ∷ 0 ∷ 120 ∷ 128 ∷ 2 ∷ 0 ∷ 0 ∷ 0 ∷ 0 ∷ []

-- the bytes from 94 up to 120: infimum and supremum, with their heads
abbrev pub end_records : List ℕ
end_records =
    1 ∷ 0 ∷ 2 ∷ 0 ∷ 13 ∷ 105 ∷ 110 ∷ 102 ∷ 105 ∷ 109 ∷ 117 ∷ 109 ∷ 0
    ∷ 1 ∷ 0 ∷ 11 ∷ 0 ∷ 0 ∷ 115 ∷ 117 ∷ 112 ∷ 114 ∷ 101 ∷ 109 ∷ 117 ∷ 109 ∷ []

-- the bytes from `from` up to `to` are zero, and the others are the old ones
pub record Clears (old new : List ℕ) (from to : ℕ) : Type 0 where
  pub zero : (k : ℕ) → from ≤ k → k < to → slice_index new k ≡ 0
  pub kept : SameOutside old new from to
