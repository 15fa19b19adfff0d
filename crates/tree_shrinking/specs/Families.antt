-- A child of a page, and those beside it under the same page.
use Rattle.std.specs.Prelude.{ℕ, ◌≡◌, true, false, Option, Some, None, option_map, List, ◌∷◌, ◌++◌}
use Rattle.index_page.specs.Rows.{Row, Child, find_row, first_of_rows, last_of_rows}
use Rattle.tree_shrinking.specs.declared.families.Family.{Family}
use Rattle.tree_shrinking.specs.declared.pairs.Siblings.{Siblings}

-- the row points to this page; where there is no row, there is no page
abbrev pub PointsTo : Option Row → Option ℕ → Type 0
PointsTo None o = o ≡ None
PointsTo (Some row) o = (n : ℕ) × (o ≡ Some n) × (row.body ≡ Child n)

-- so it is with the row at a place, if there is a place
abbrev pub IsChildAt : List Row → Option ℕ → Option ℕ → Type 0
IsChildAt rows None o = o ≡ None
IsChildAt rows (Some place) o = PointsTo (find_row place rows) o

-- a row points to the child, and those before and after it to the pages beside it
pub record TellsFamily (rows : List Row) (family : Family) : Type 0 where
  pub fore : List Row
  pub this : Row
  pub aft : List Row
  pub was : rows ≡ fore ++ this ∷ aft
  pub child : this.body ≡ Child family.child
  pub left : PointsTo (last_of_rows fore) family.left
  pub right : PointsTo (first_of_rows aft) family.right

-- the page before the child and the child, which may be the light one, if there is such a page
abbrev pub siblings_before : Family → Option Siblings
siblings_before family =
    option_map (λ (n : ℕ). record { left = n; right = family.child; right_asks = true }) family.left

-- the child, which may be the light one, and the page after it
abbrev pub siblings_after : Family → Option Siblings
siblings_after family = option_map
    (λ (n : ℕ). record { left = family.child; right = n; right_asks = false }) family.right
