-- The row of a key on a leaf.
use Rattle.std.specs.Prelude.{ℕ, ◌≡◌, Option, Some, None, List, length}
use Rattle.key_tuple.specs.Order.{FieldList}
use Rattle.key_tuple.specs.declared.mode.Mode.TheVariants as mode
use Rattle.map_history.specs.Map.{value_at}
use Rattle.index_page.specs.declared.spot.Spot.{Spot}
use Rattle.index_page.specs.Page.{PageRows}
use Rattle.index_page.specs.Rows.{Row, Bytes, find_row}
use Rattle.index_page.specs.Search.{Finds}
use Rattle.tree_law.specs.Pages.{row_pairs}

-- the page is a leaf for keys of as many fields, and the key belongs at the spot
pub record HasSpot (page : PageRows) (key : FieldList) (spot : Spot) : Type 0 where
  pub level : page.head.level ≡ 0
  pub fields : length key ≡ page.head.fields
  pub finds : Finds mode.Ge key page.rows spot

-- the key's row stands at the place, and as a map the rows have its value at the key
pub record HasRow (page : PageRows) (place : ℕ) (key : FieldList) : Type 0 where
  pub row : Row
  pub value : List ℕ
  pub there : find_row place page.rows ≡ Some row
  pub key_is : row.key ≡ key
  pub body : row.body ≡ Bytes value
  pub has : value_at key (row_pairs page.rows) ≡ Some value

-- the place of the key's row; none where the page hasn't the key
abbrev pub IsFoundAt : PageRows → FieldList → Option ℕ → Type 0
IsFoundAt page key None = value_at key (row_pairs page.rows) ≡ None
IsFoundAt page key (Some place) = HasRow page place key
