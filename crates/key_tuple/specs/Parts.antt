-- Fields that lie in one buffer, told apart by the offsets of their ends.
use Rattle.std.specs.Prelude.{ℕ, ◌≡◌, ◌≤◌, List, [], ◌∷◌, slice_range}
use Rattle.key_tuple.specs.Order.{FieldList}

-- the parts of a list that end at these offsets, the first of which begins at `from`
abbrev pub parts : {A : Type 0} → List A → ℕ → List ℕ → List (List A)
parts xs from [] = []
parts xs from (end ∷ ends) = slice_range xs from end ∷ parts xs end ends

-- the offsets rise from `from` and the last is `to`
abbrev pub RiseTo : ℕ → List ℕ → ℕ → Type 0
RiseTo from [] to = from ≡ to
RiseTo from (end ∷ ends) to = (from ≤ end) × RiseTo end ends to

-- fields in a buffer, and how many bytes it holds before it has to grow
pub record Buffered : Type 0 where
  pub fields : FieldList
  pub room : ℕ
