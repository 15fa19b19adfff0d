-- Where a page is cut in two, and what its halves are.
use Rattle.std.specs.Prelude.{ℕ, ◌≡◌, ◌≢◌, Some, List, [], ◌∷◌, ◌++◌, length}
use Rattle.key_tuple.specs.Order.{FieldList}
use Rattle.index_page.specs.declared.TheConstants.{NO_PAGE}
use Rattle.index_page.specs.Rows.{Row, SameRows, find_row}
use Rattle.index_page.specs.Page.{PageRows, linked, IsPageInOrder}
use Rattle.index_page.specs.Loads.{HalvesRows}
use Rattle.tree_law.specs.PageMoves.{BeginsAt}

-- the row at the place is the first of the upper half: the cut before it is the first of those
-- whose larger part is least
pub record IsHalfPlace (rows : List Row) (place : ℕ) : Type 0 where
  pub lower : List Row
  pub row : Row
  pub above : List Row
  pub was : rows ≡ lower ++ row ∷ above
  pub place_is : row.place ≡ place
  pub there : find_row place rows ≡ Some row
  pub halves : HalvesRows rows (length lower)

-- so it is, and this is the row's key
pub record HalvesAt (rows : List Row) (place : ℕ) (at : FieldList) : Type 0 where
  pub half : IsHalfPlace rows place
  pub key_is : half.row.key ≡ at

-- the second page has no rows, and is of the index and level of the first, with keys of as many
-- fields
pub record IsBlankBeside (page fresh : PageRows) : Type 0 where
  pub empty : fresh.rows ≡ []
  pub index : fresh.head.index ≡ page.head.index
  pub level : fresh.head.level ≡ page.head.level
  pub fields : fresh.head.fields ≡ page.head.fields

-- the first page can be cut at this place and key into the second
pub record SuitsPages (page fresh : PageRows) (place : ℕ) (at : FieldList) : Type 0 where
  pub cut : HalvesAt page.rows place at
  pub blank : IsBlankBeside page fresh
  pub number : page.head.number ≢ NO_PAGE
  pub other : fresh.head.number ≢ NO_PAGE

-- the rows below the cut stay on the left page, which was in order, and those from the key on, in
-- their order, are on the right one, which was blank. The two name each other, and the right one
-- names what the left one named as its next
pub record CutsPage (page stays fresh new : PageRows) (at : FieldList) : Type 0 where
  pub lower : List Row
  pub upper : List Row
  pub whole : IsPageInOrder page
  pub was : page.rows ≡ lower ++ upper
  pub halves : HalvesRows page.rows (length lower)
  pub stay : stays.rows ≡ lower
  pub go : SameRows upper new.rows
  pub begins : BeginsAt at new.rows
  pub head : stays.head ≡ linked page.head page.head.prev (Some fresh.head.number)
  pub new_head : new.head ≡ linked fresh.head (Some page.head.number) page.head.next
  pub order : IsPageInOrder stays
  pub new_order : IsPageInOrder new
