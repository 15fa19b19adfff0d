-- Where a search with a tuple stands among keys of one number of fields.
use Rattle.std.specs.Prelude.{ℕ, ◌≡◌, ◌==◌, Bool, true, false, if◌then◌else◌, length}
use Rattle.key_tuple.specs.declared.mode.Mode.{Mode}
use Rattle.key_tuple.specs.Order.{FieldList}
use Rattle.key_tuple.specs.KeyPlace.{KeyPlace, Start, At, End, above, before, cut_of, within, IsCut}

-- the cut at the position of a tuple: one with all fields stands at its key, whatever the mode, so
-- that the places above it are beyond; a shorter one stands at the mode's cut
abbrev pub position_cut : ℕ → Mode → FieldList → KeyPlace → Bool
position_cut fields mode tuple x =
    if length tuple == fields then above tuple x else cut_of mode tuple x

-- bounds have the position: it isn't below the low end, and it is below the high end
pub record HasPosition (fields : ℕ) (mode : Mode) (tuple : FieldList)
    (low high : KeyPlace) : Type 0 where
  pub at_low : position_cut fields mode tuple low ≡ false
  pub at_high : position_cut fields mode tuple high ≡ true

-- a key at this place has so many fields
abbrev pub IsOfFields : ℕ → KeyPlace → Type 0
IsOfFields fields Start = Unit {0}
IsOfFields fields (At k) = length k ≡ fields
IsOfFields fields End = Unit {0}

-- What a position tells of the mode's cut. Bounds have the position of a tuple with all fields just
-- where they have its key; the mode's cut admits what is beyond the position, and leaves out what
-- is before a low end that isn't.
pub record PositionsPart : Type 0 where
  pub cut : (fields : ℕ) (mode : Mode) (tuple : FieldList) → IsCut (position_cut fields mode tuple)
  pub whole : (fields : ℕ) (mode : Mode) (tuple : FieldList) (x : KeyPlace)
      → length tuple ≡ fields → IsOfFields fields x
      → position_cut fields mode tuple x ≡ before (At tuple) x
  pub has_key : (fields : ℕ) (mode : Mode) (tuple : FieldList) (low high : KeyPlace)
      → length tuple ≡ fields → IsOfFields fields low → IsOfFields fields high
      → HasPosition fields mode tuple low high → within low high (At tuple) ≡ true
  pub of_key : (fields : ℕ) (mode : Mode) (tuple : FieldList) (low high : KeyPlace)
      → length tuple ≡ fields → IsOfFields fields low → IsOfFields fields high
      → within low high (At tuple) ≡ true → HasPosition fields mode tuple low high
  pub beyond : (fields : ℕ) (mode : Mode) (tuple : FieldList) (x : KeyPlace)
      → position_cut fields mode tuple x ≡ true → cut_of mode tuple x ≡ true
  pub below : (fields : ℕ) (mode : Mode) (tuple : FieldList) (x y : KeyPlace)
      → IsOfFields fields y → position_cut fields mode tuple y ≡ false → before x y ≡ true
      → cut_of mode tuple x ≡ false
