-- The row of an inner page by which a descent goes on.
use Rattle.std.specs.Prelude.{ℕ, ◌≡◌, ◌⊎◌, ◌==◌, Bool, if◌then◌else◌, List, [], ◌∷◌, ◌++◌, length}
use Rattle.std.specs.Prelude.{Option, Some, is_some, MatchOption}
use Rattle.key_tuple.specs.Order.{FieldList}
use Rattle.key_tuple.specs.KeyPlace.{KeyPlace}
use Rattle.key_tuple.specs.Position.{position_cut}
use Rattle.key_tuple.specs.declared.mode.Mode.{Mode}
use Rattle.key_tuple.specs.declared.mode.Mode.TheVariants.{Le}
use Rattle.index_page.specs.declared.spot.Spot.{Spot}
use Rattle.index_page.specs.Rows.{Row, last_of_rows, find_row}
use Rattle.index_page.specs.Search.{AllOut, AllIn, Finds}

-- the mode whose cut is the position of a tuple, where keys have so many fields
abbrev pub position_mode : ℕ → Mode → FieldList → Mode
position_mode fields mode tuple = if length tuple == fields then Le else mode

-- the place of the row by which a descent goes on: before the spot or, where no row is, after it
abbrev pub pick_of : Spot → Option ℕ
pick_of spot = if is_some spot.before then spot.before else spot.after

-- the last row that the cut leaves out stands at the place
pub record IsLastOut (p : KeyPlace → Bool) (rows : List Row) (place : ℕ) : Type 0 where
  pub left : List Row
  pub right : List Row
  pub row : Row
  pub there : find_row place rows ≡ Some row
  pub split : rows ≡ left ++ right
  pub last : last_of_rows left ≡ Some row
  pub out : AllOut p left
  pub past : AllIn p right

-- the first row stands at the place, and the cut admits all rows
pub record IsFirstIn (p : KeyPlace → Bool) (rows : List Row) (place : ℕ) : Type 0 where
  pub row : Row
  pub rest : List Row
  pub there : find_row place rows ≡ Some row
  pub is : rows ≡ row ∷ rest
  pub past : AllIn p rows

-- the row at the place is the last that the cut leaves out or, where it leaves out none, the
-- first: the one whose range has the cut
abbrev pub IsPicked : (KeyPlace → Bool) → List Row → ℕ → Type 0
IsPicked p rows place = IsLastOut p rows place ⊎ IsFirstIn p rows place

-- the spot at the position of a tuple picks that row; where it picks none, there are no rows
abbrev pub SpotsPickRows : Type 0
SpotsPickRows =
    (fields : ℕ) (mode : Mode) (tuple : FieldList) (rows : List Row) (spot : Spot)
    → Finds (position_mode fields mode tuple) tuple rows spot
    → MatchOption (pick_of spot) (rows ≡ []) (IsPicked (position_cut fields mode tuple) rows)
