-- Pages whose rows become those of one, and a pointer that goes.
use Rattle.std.specs.Prelude.{◌≡◌, ◌≢◌, ◌≤◌, ◌+◌, Some, None, List, [], ◌∷◌, ◌++◌}
use Rattle.key_tuple.specs.Order.{FieldList}
use Rattle.index_page.specs.declared.TheConstants.{NO_PAGE, PAGE_ROOM}
use Rattle.index_page.specs.Loads.{load_of}
use Rattle.index_page.specs.Rows.{Row, SameRows}
use Rattle.index_page.specs.Page.{PageRows, linked, IsPageInOrder}
use Rattle.tree_merging.specs.Siblings.{PartsAt}

-- the page has no rows, and has itself as its left neighbour and none on the right
abbrev pub emptied : PageRows → PageRows
emptied page = record { head = linked page.head (Some page.head.number) None; rows = [] }

-- the rows of the second page can go behind those of the first one, of the same level, from which a
-- key parts them
pub record SuitsPair (page other : PageRows) (at : FieldList) : Type 0 where
  pub level : other.head.level ≡ page.head.level
  pub fields : other.head.fields ≡ page.head.fields
  pub parts : PartsAt at page.rows other.rows
  pub fits : load_of page.rows + load_of other.rows ≤ PAGE_ROOM
  pub number : other.head.number ≢ NO_PAGE

-- all rows of the second page are behind those of the first one, in their order. The first one names
-- what the second one named as its next, and the second one is empty
pub record MergesPage (page whole other gone : PageRows) : Type 0 where
  pub moved : List Row
  pub behind : whole.rows ≡ page.rows ++ moved
  pub same : SameRows other.rows moved
  pub head : whole.head ≡ linked page.head page.head.prev other.head.next
  pub is_gone : gone ≡ emptied other
  pub order : IsPageInOrder whole

-- a row with this key is on the page
pub record KeyStands (page : PageRows) (key : FieldList) : Type 0 where
  pub fore : List Row
  pub row : Row
  pub aft : List Row
  pub was : page.rows ≡ fore ++ row ∷ aft
  pub is_key : row.key ≡ key

-- the row with this key is gone; all else is as before
pub record LosesKey (page new : PageRows) (key : FieldList) : Type 0 where
  pub rows : (fore : List Row) (row : Row) (aft : List Row) → page.rows ≡ fore ++ row ∷ aft
      → row.key ≡ key → new.rows ≡ fore ++ aft
  pub head : new.head ≡ page.head
  pub order : IsPageInOrder new
