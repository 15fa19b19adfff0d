-- Where a cut parts the rows of a page.
use Rattle.std.specs.Prelude.{◌≡◌, ℕ, ◌≤◌, Bool, not, List, ◌++◌, length}
use Rattle.std.specs.Ordering.{is_lt, is_gt}
use Rattle.std.specs.List.{AllByRecursion}
use Rattle.std.specs.declared.cmp.Ordering.{Ordering}
use Rattle.std.specs.declared.cmp.Ordering.TheVariants.{Less, Greater}
use Rattle.key_tuple.specs.Order.{FieldList}
use Rattle.key_tuple.specs.KeyPlace.{KeyPlace, cut_of}
use Rattle.key_tuple.specs.declared.mode.Match.{Match}
use Rattle.key_tuple.specs.declared.mode.Mode.{Mode}
use Rattle.key_tuple.specs.declared.mode.Mode.TheVariants.{Ge, G, Le, L}
use Rattle.index_page.specs.Rows.{Row, first_of_rows, last_of_rows}
use Rattle.index_page.specs.Page.{RowsAscend}
use Rattle.index_page.specs.Search.{AllOut, AllIn, agreement}
use Rattle.page_rows.specs.Reading.{rows_in_bytes}
use Rattle.page_rows.specs.Spelling.{IsPageOfRows}
use Rattle.page_rows.specs.Inserting.{place_before}
use Rattle.page_search.specs.declared.cut.CutPlace.{CutPlace}
use Rattle.page_search.specs.declared.cut.Narrowed.{Narrowed}
use Rattle.page_search.specs.Agreeing.{AgreesOr, agreed}

-- the mode's cut admits a key to which the tuple stands like this
abbrev pub admits_at : Mode → Ordering → Bool
admits_at Ge order = not (is_gt order)
admits_at G order = is_lt order
admits_at Le order = is_lt order
admits_at L order = not (is_gt order)

-- where a cut is, as far as it is known
abbrev pub place_in : Narrowed → CutPlace
place_in n = record {
  before = n.before;
  low = agreed n.low;
  up = agreed n.up;
}

-- the cut leaves out the rows up to the place `before`, and admits those behind it
pub record CutsRows (rows : List Row) (p : KeyPlace → Bool) (before : ℕ) : Type 0 where
  pub left : List Row
  pub right : List Row
  pub split : rows ≡ left ++ right
  pub before_is : before ≡ place_before left
  pub out : AllOut p left
  pub past : AllIn p right

-- the mode's cut is there, and so far the tuple agrees with the rows around it
pub record FindsCut (rows : List Row) (mode : Mode) (tuple : FieldList) (found : CutPlace)
    : Type 0 where
  pub cuts : CutsRows rows (cut_of mode tuple) found.before
  pub low : found.low ≡ agreement tuple (last_of_rows cuts.left)
  pub up : found.up ≡ agreement tuple (first_of_rows cuts.right)

-- `before` is the place of the last of the rows on the left
pub record IsBehindRows (bytes : List ℕ) (fields : ℕ) (left right : List Row) (before : ℕ)
    : Type 0 where
  pub page : IsPageOfRows bytes fields
  pub ascend : RowsAscend right
  pub rows : rows_in_bytes bytes fields ≡ left ++ right
  pub before_is : before ≡ place_before left

-- so far the tuple agrees with the last of the rows on the left, and each of those in the middle
-- agrees with it as far, or is above it
pub record LowFigures (tuple : FieldList) (left middle : List Row) (figures : Match) : Type 0 where
  pub is : figures ≡ agreement tuple (last_of_rows left)
  pub behind : AllByRecursion (λ (x : Row). AgreesOr Less tuple figures x.key) middle

-- so far the tuple agrees with the first of the rows on the right, and each of those in the middle
-- agrees with it as far, or is below it
pub record UpFigures (tuple : FieldList) (middle right : List Row) (figures : Match) : Type 0 where
  pub is : figures ≡ agreement tuple (first_of_rows right)
  pub before : AllByRecursion (λ (x : Row). AgreesOr Greater tuple figures x.key) middle

-- the cut leaves out the rows on the left, up to a place, and admits those on the right
pub record IsOnTheWay (bytes : List ℕ) (fields : ℕ) (mode : Mode) (tuple : FieldList)
    (left middle right : List Row) (found : CutPlace) : Type 0 where
  pub behind : IsBehindRows bytes fields left (middle ++ right) found.before
  pub out : AllOut (cut_of mode tuple) left
  pub past : AllIn (cut_of mode tuple) right
  pub low : LowFigures tuple left middle found.low
  pub up : UpFigures tuple middle right found.up

-- so it does, and in the middle are at most seven, as many as a slot's owner owns beside itself
pub record NarrowsRows (bytes : List ℕ) (fields : ℕ) (mode : Mode) (tuple : FieldList)
    (found : CutPlace) : Type 0 where
  pub left : List Row
  pub middle : List Row
  pub right : List Row
  pub way : IsOnTheWay bytes fields mode tuple left middle right found
  pub few : length middle ≤ 7
