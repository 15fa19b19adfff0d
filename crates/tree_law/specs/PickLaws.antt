-- The row of an inner page by which a descent goes on.
use Rattle.std.specs.Prelude.{ℕ, suc, ◌≡◌, Bool, true, false, Some, List, ◌∷◌, ◌++◌}
use Rattle.std.specs.List.{AllByRecursion}
use Rattle.key_tuple.specs.KeyPlace.{KeyPlace, IsCut}
use Rattle.map_history.specs.Map.{Map}
use Rattle.index_page.specs.Rows.{Child, Row, last_of_rows}
use Rattle.index_page.specs.Search.{AllOut, AllIn}
use Rattle.tree_law.specs.TreeShape.{Range, Forest, In, first_from, ranges, Rise, HasCut}
use Rattle.tree_law.specs.Pages.{Page, Pages, low_place, high_place, pointers_of, forest, is_own, AreLawfulPages}

-- the range of a pointer that has the cut
pub record CutRange (p : KeyPlace → Bool) (rows : List Row) (high : KeyPlace) (n : ℕ) : Type 0 where
  pub range : Range
  pub among : In range (ranges (pointers_of rows) high)
  pub from : p range.from ≡ false
  pub to : p range.to ≡ true
  pub child : range.child ≡ n

-- rows of an inner page
abbrev pub AreInner : List Row → Type 0
AreInner rows = AllByRecursion (λ (x : Row). (n : ℕ) × (x.body ≡ Child n)) rows

-- on a page that has the cut, the range of the last row that the cut leaves out has it, and where
-- the cut leaves out none, that of the first row
pub record PicksRange (p : KeyPlace → Bool) : Type 0 where
  pub last : (rows left right : List Row) (high : KeyPlace) (x : Row) (n : ℕ) → rows ≡ left ++ right
      → last_of_rows left ≡ Some x → x.body ≡ Child n → AllOut p left → AllIn p right
      → AreInner right
      → p high ≡ true → Rise (pointers_of rows) high → CutRange p rows high n
  pub first : (x : Row) (ys : List Row) (low high : KeyPlace) (n : ℕ) → x.body ≡ Child n
      → AllIn p ys → AreInner ys
      → first_from (pointers_of (x ∷ ys)) high ≡ low → p low ≡ false → p high ≡ true
      → Rise (pointers_of (x ∷ ys)) high → CutRange p (x ∷ ys) high n

-- so it is with each cut
abbrev pub RangesArePicked : Type 0
RangesArePicked = (p : KeyPlace → Bool) → IsCut p → PicksRange p

-- one level down: that row points to the page of the level below that has the cut
pub record StepsDown (trees : Forest) (p : KeyPlace → Bool) (page : Page) (level : ℕ) : Type 0 where
  pub last : (left right : List Row) (x : Row) (n : ℕ) → page.rows ≡ left ++ right
      → last_of_rows left ≡ Some x
      → x.body ≡ Child n → AllOut p left → AllIn p right → HasCut trees p page.index level n
  pub first : (x : Row) (ys : List Row) (n : ℕ) → page.rows ≡ x ∷ ys → x.body ≡ Child n → AllIn p ys
      → HasCut trees p page.index level n

-- so it is on each page above the leaves that has the cut
abbrev pub DescentSteps : Type 0
DescentSteps =
    (indexes : ℕ) (fields_of heights : ℕ → ℕ) (maps : ℕ → Map) (pages : Pages)
    → AreLawfulPages indexes fields_of heights maps pages
    → (p : KeyPlace → Bool) → IsCut p → (number level : ℕ) (page : Page) → pages number ≡ Some page
    → is_own number page.prev ≡ false → page.level ≡ suc level
    → p (low_place page.low) ≡ false → p (high_place page.high) ≡ true
    → StepsDown (forest pages) p page level
