-- A page as its head and its rows, and what holds of each page.
use Rattle.std.specs.Prelude.{ℕ, ◌≡◌, ◌≢◌, ◌≤◌, true, Option, Some, None, List, [], ◌∷◌, length}
use Rattle.std.specs.List.{AllByRecursion}
use Rattle.key_tuple.specs.KeyPlace.{At, before}
use Rattle.key_tuple.specs.Limits.{IsWithinLimits}
use Rattle.key_tuple.specs.declared.TheConstants.{MAX_VALUE_BYTES}
use Rattle.index_page.specs.declared.TheConstants.{NO_PAGE, PAGE_ROOM}
use Rattle.index_page.specs.declared.head.PageHead.{PageHead}
use Rattle.index_page.specs.Rows.{RowBody, Bytes, Child, Row}
use Rattle.index_page.specs.Loads.{load_of}

-- a page: its head, and its rows by ascending keys
pub record PageRows : Type 0 where
  pub head : PageHead
  pub rows : List Row

-- the number of a neighbour, if there is one, is that of a page
abbrev pub IsNeighbour : Option ℕ → Type 0
IsNeighbour None = Unit {0}
IsNeighbour (Some number) = number ≢ NO_PAGE

-- the head with these neighbours
abbrev pub linked : PageHead → Option ℕ → Option ℕ → PageHead
linked head prev next = record head { prev = prev; next = next }

-- the keys rise along the rows
abbrev pub RowsAscend : List Row → Type 0
RowsAscend [] = Unit {0}
RowsAscend (x ∷ xs) =
    AllByRecursion (λ (y : Row). before (At x.key) (At y.key) ≡ true) xs × RowsAscend xs

-- no two rows stand at one place
abbrev pub PlacesDiffer : List Row → Type 0
PlacesDiffer [] = Unit {0}
PlacesDiffer (x ∷ xs) = AllByRecursion (λ (y : Row). y.place ≢ x.place) xs × PlacesDiffer xs

-- a row carries what the level of its page asks for: a value on level 0, a child above
abbrev pub FitsLevel : ℕ → RowBody → Type 0
FitsLevel level (Bytes value) = level ≡ 0
FitsLevel level (Child number) = level ≢ 0

-- a value is within the limit
abbrev pub HasShortValue : RowBody → Type 0
HasShortValue (Bytes value) = length value ≤ MAX_VALUE_BYTES
HasShortValue (Child number) = Unit {0}

-- a row suits a page with this head: it has as many fields, is within the limits, and carries
-- what the level asks for
pub record IsRowOf (head : PageHead) (row : Row) : Type 0 where
  pub fields : length row.key ≡ head.fields
  pub limits : IsWithinLimits row.key
  pub body : FitsLevel head.level row.body
  pub short : HasShortValue row.body

-- what holds of each page: its keys rise, its places differ, its rows suit it and are charged no
-- more than there is room, and its neighbours are pages
pub record IsPageInOrder (page : PageRows) : Type 0 where
  pub ascend : RowsAscend page.rows
  pub places : PlacesDiffer page.rows
  pub each : AllByRecursion (IsRowOf page.head) page.rows
  pub fits : load_of page.rows ≤ PAGE_ROOM
  pub prev : IsNeighbour page.head.prev
  pub next : IsNeighbour page.head.next

-- a row with the level of its page
pub record LevelRow : Type 0 where
  pub level : ℕ
  pub row : Row
