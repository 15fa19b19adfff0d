-- The laws of loads.
use Rattle.std.specs.Prelude.{ℕ, ◌≡◌, ◌<◌, ◌≤◌, ◌+◌, ◌*◌, List, [], ◌∷◌, ◌++◌, length, take, drop}
use Rattle.std.specs.List.{AllByRecursion}
use Rattle.index_page.specs.declared.TheConstants.{PAGE_ROOM, MAX_CHARGE}
use Rattle.index_page.specs.declared.head.PageHead.{PageHead}
use Rattle.index_page.specs.Rows.{Row}
use Rattle.index_page.specs.Page.{PageRows, IsRowOf, IsPageInOrder}
use Rattle.index_page.specs.Loads.{charge_of, load_of, HalvesRows}

-- loads add up: those of the two parts of a cut are the whole load, that of two lists together is
-- the sum, and a row more adds its charge, wherever it stands
pub record LoadsAddUp : Type 0 where
  pub none : load_of [] ≡ 0
  pub cut : (rows : List Row) (k : ℕ) → load_of (take k rows) + load_of (drop k rows) ≡ load_of rows
  pub merged : (left right : List Row) → load_of (left ++ right) ≡ load_of left + load_of right
  pub row : (below : List Row) (x : Row) (above : List Row)
      → load_of (below ++ x ∷ above) ≡ load_of (below ++ above) + charge_of x.key x.body

-- a row has room on an empty page, and where one has none there are at least two others
pub record RowsHaveRoom : Type 0 where
  pub most : (head : PageHead) (x : Row) → IsRowOf head x → charge_of x.key x.body ≤ MAX_CHARGE
  pub empty : (head : PageHead) (x : Row) → IsRowOf head x → charge_of x.key x.body ≤ PAGE_ROOM
  pub full : (page : PageRows) (x : Row) → IsPageInOrder page → IsRowOf page.head x
      → PAGE_ROOM < load_of page.rows + charge_of x.key x.body → 1 < length page.rows

-- neither half is above half of the load and of the largest charge together
pub record AreNearHalf (rows : List Row) (k most : ℕ) : Type 0 where
  pub left : 2 * load_of (take k rows) ≤ load_of rows + most
  pub right : 2 * load_of (drop k rows) ≤ load_of rows + most

-- the halves of rows are near half of their load, whatever the charges are at most
abbrev pub HalvesAreNear : Type 0
HalvesAreNear =
    (rows : List Row) (k most : ℕ) → HalvesRows rows k
    → AllByRecursion (λ (x : Row). charge_of x.key x.body ≤ most) rows → AreNearHalf rows k most
