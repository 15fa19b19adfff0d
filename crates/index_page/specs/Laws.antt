-- The laws of places and of searches for whole keys.
use Rattle.std.specs.Prelude.{ℕ, ◌≡◌, ◌≢◌, ◌<◌, Some, List, ◌∷◌, ◌++◌, length}
use Rattle.key_tuple.specs.Order.{FieldList}
use Rattle.key_tuple.specs.declared.mode.Mode.TheVariants.{Ge}
use Rattle.index_page.specs.declared.spot.Spot.{Spot}
use Rattle.index_page.specs.Rows.{Row, find_row, IsAt, LacksKey}
use Rattle.index_page.specs.Page.{PageRows, IsPageInOrder}
use Rattle.index_page.specs.Search.{Finds}

-- a row with this key stands after the spot
pub record HasKeyAfter (key : FieldList) (rows : List Row) (spot : Spot) : Type 0 where
  pub row : Row
  pub after_at : IsAt rows spot.after (Some row)
  pub key_is : row.key ≡ key

-- the figures of a spot tell whether a whole key is there: it is that of the row after the spot
-- where all its fields are equal, and else no row has it
pub record TellsKey (key : FieldList) (rows : List Row) (spot : Spot) : Type 0 where
  pub there : spot.up.fields ≡ length key → HasKeyAfter key rows spot
  pub absent : spot.up.fields ≢ length key → LacksKey key rows

-- the spot before a whole key tells whether it is there
abbrev pub SpotsTellKeys : Type 0
SpotsTellKeys =
    (page : PageRows) (key : FieldList) (spot : Spot) → IsPageInOrder page
    → length key ≡ page.head.fields → 0 < length key
    → Finds Ge key page.rows spot → TellsKey key page.rows spot

-- the row at a place, between those before and after it
pub record StandsAt (rows : List Row) (place : ℕ) (row : Row) : Type 0 where
  pub left : List Row
  pub right : List Row
  pub split : rows ≡ left ++ row ∷ right
  pub place_is : row.place ≡ place

-- each row of a page is the one at its place, and the row at a place is one of the rows
pub record PlacesTellRows : Type 0 where
  pub found : (page : PageRows) (left : List Row) (row : Row) (right : List Row)
      → IsPageInOrder page → page.rows ≡ left ++ row ∷ right
      → find_row row.place page.rows ≡ Some row
  pub stands : (rows : List Row) (place : ℕ) (row : Row) → find_row place rows ≡ Some row
      → StandsAt rows place row
