-- Rows that come behind all others of a page.
use Rattle.std.specs.Prelude.{◌≡◌, ℕ, ◌+◌, ◌<◌, ◌≤◌, Bool, true, false, Option, Some, List, [], ◌∷◌, ◌++◌}
use Rattle.std.specs.List.{AllByRecursion}
use Rattle.key_tuple.specs.Order.{FieldList}
use Rattle.key_tuple.specs.KeyPlace.{At, before}
use Rattle.index_page.specs.declared.TheConstants.{PAGE_ROOM, MAX_CHARGE}
use Rattle.index_page.specs.Rows.{Row, RowBody, placed_row, find_row, first_of_rows, IsAt, SameRows}
use Rattle.index_page.specs.Page.{PageRows, PlacesDiffer, RowsAscend}
use Rattle.index_page.specs.Moves.{MovesAll, Reorganises}
use Rattle.index_page.specs.Loads.{charge_of, load_of}
use Rattle.index_page.specs.Refusals.{insert_refusal}
use Rattle.page_rows.specs.Inserting.{place_before}
use Rattle.byte_page.specs.Form.{GappedPage, gap_refusal}

-- no row that may be put in is scattered: the page refuses just those that a plain page refuses
abbrev pub TakesWhatFits : GappedPage → Type 0
TakesWhatFits form =
    (key : FieldList) (body : RowBody) → 0 < charge_of key body → charge_of key body ≤ MAX_CHARGE
    → gap_refusal form key body ≡ insert_refusal form.page key body

-- the row at a place of another page may come behind the last one, whose place is `last`: there
-- is room for it, its key is above the others, and no bytes are in no use
pub record CanAppend (form from : GappedPage) (last place : ℕ) : Type 0 where
  pub row : Row
  pub there : find_row place from.page.rows ≡ Some row
  pub last_is : last ≡ place_before form.page.rows
  pub level : form.page.head.level ≡ from.page.head.level
  pub fields : form.page.head.fields ≡ from.page.head.fields
  pub above : AllByRecursion (λ (x : Row). before (At x.key) (At row.key) ≡ true) form.page.rows
  pub room : load_of form.page.rows + charge_of row.key row.body ≤ PAGE_ROOM
  pub tight : form.garbage ≡ 0

-- the same row stands behind the others at this place, and as before no bytes are in no use
pub record AppendsRow (old new : GappedPage) (row : Row) (place : ℕ) : Type 0 where
  pub rows : new.page.rows ≡ old.page.rows ++ placed_row place row.key row.body ∷ []
  pub head : new.page.head ≡ old.page.head
  pub tight : new.garbage ≡ 0

-- the rows of another page from the one at `first` on may come behind the others
pub record CanAppendRows (form from : GappedPage) (first : Option ℕ) (left others : List Row)
    : Type 0 where
  pub split : from.page.rows ≡ left ++ others
  pub first_at : IsAt from.page.rows first (first_of_rows others)
  pub level : form.page.head.level ≡ from.page.head.level
  pub fields : form.page.head.fields ≡ from.page.head.fields
  pub ascend : RowsAscend (form.page.rows ++ others)
  pub room : load_of form.page.rows + load_of others ≤ PAGE_ROOM
  pub tight : form.garbage ≡ 0

-- the same rows stand behind the others, and as before no bytes are in no use
pub record AppendsRows (old new : GappedPage) (others : List Row) : Type 0 where
  pub moved : List Row
  pub rows : new.page.rows ≡ old.page.rows ++ moved
  pub same : SameRows others moved
  pub head : new.page.head ≡ old.page.head
  pub tight : new.garbage ≡ 0

-- the page has its rows at places that may be new, where `again` says so, and else is as it was
abbrev pub StaysUnless : Bool → PageRows → PageRows → Type 0
StaysUnless true old new = Reorganises old new
StaysUnless false old new = new ≡ old

-- all rows went behind those of the other page, which stood at their old places or at new ones
pub record MovesAllTo (again : Bool) (old new to_old to_new : PageRows) : Type 0 where
  pub between : PageRows
  pub stays : StaysUnless again to_old between
  pub moves : MovesAll old new between to_new

-- the last row is gone, which stood at the place; all else is as before
pub record PopsRow (old new : PageRows) (place : ℕ) : Type 0 where
  pub front : List Row
  pub row : Row
  pub was : old.rows ≡ front ++ row ∷ []
  pub place_is : row.place ≡ place
  pub is : new.rows ≡ front
  pub head : new.head ≡ old.head
  pub differ : PlacesDiffer old.rows

-- the rows before the one at `first` are left; all else is as before
pub record KeepsFirst (old new : PageRows) (left : List Row) : Type 0 where
  pub rows : new.rows ≡ left
  pub head : new.head ≡ old.head
