-- What a search in a page tells.
use Rattle.std.specs.Prelude.{ℕ, ◌≡◌, ◌≤◌, Bool, true, false, Option, Some, None, List, ◌++◌, length, take, drop, slice_get}
use Rattle.std.specs.List.{AllByRecursion}
use Rattle.key_tuple.specs.Order.{FieldList}
use Rattle.key_tuple.specs.KeyPlace.{KeyPlace, At, cut_of}
use Rattle.key_tuple.specs.Figures.{matching}
use Rattle.key_tuple.specs.declared.mode.Mode.{Mode}
use Rattle.key_tuple.specs.declared.mode.Match.{Match}
use Rattle.index_page.specs.declared.spot.Spot.{Spot}
use Rattle.index_page.specs.Rows.{Row, first_of_rows, last_of_rows, IsAt}

-- the cut leaves out each of the rows
abbrev pub AllOut : (KeyPlace → Bool) → List Row → Type 0
AllOut p rows = AllByRecursion (λ (x : Row). p (At x.key) ≡ false) rows

-- the cut admits each of the rows
abbrev pub AllIn : (KeyPlace → Bool) → List Row → Type 0
AllIn p rows = AllByRecursion (λ (x : Row). p (At x.key) ≡ true) rows

-- how far a tuple agrees with a row, and nothing where there is none
abbrev pub agreement : FieldList → Option Row → Match
agreement tuple None = record { fields = 0; bytes = 0 }
agreement tuple (Some row) = matching tuple row.key

-- the mode's cut parts the rows into those that it leaves out and those that it admits; the spot
-- has the place of the last of the former and of the first of the latter, and how far the tuple
-- agrees with them
pub record Finds (mode : Mode) (tuple : FieldList) (rows : List Row) (spot : Spot) : Type 0 where
  pub left : List Row
  pub right : List Row
  pub split : rows ≡ left ++ right
  pub out : AllOut (cut_of mode tuple) left
  pub past : AllIn (cut_of mode tuple) right
  pub before_at : IsAt rows spot.before (last_of_rows left)
  pub after_at : IsAt rows spot.after (first_of_rows right)
  pub low : spot.low ≡ agreement tuple (last_of_rows left)
  pub up : spot.up ≡ agreement tuple (first_of_rows right)
  pub cut : spot.cut ≡ length left

-- the mode's cut leaves out as many of the first rows as the number says, and admits the rest
pub record CutsAt (mode : Mode) (tuple : FieldList) (rows : List Row) (cut : ℕ) : Type 0 where
  pub within : cut ≤ length rows
  pub out : AllOut (cut_of mode tuple) (take cut rows)
  pub past : AllIn (cut_of mode tuple) (drop cut rows)

-- the row with that number, if a number is given
abbrev pub nth_row : List Row → Option ℕ → Option Row
nth_row rows None = None
nth_row rows (Some i) = slice_get rows i

-- the row with that number stands at the place
pub record IsPosition (rows : List Row) (place i : ℕ) : Type 0 where
  pub row : Row
  pub there : slice_get rows i ≡ Some row
  pub place_is : row.place ≡ place
