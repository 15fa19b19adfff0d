-- When a key is in the range of a pointer.
use Rattle.std.specs.Prelude.{ℕ, ◌≡◌, true, List, ◌∷◌, ◌++◌, length}
use Rattle.std.specs.List.{AllByRecursion}
use Rattle.key_tuple.specs.Order.{FieldList}
use Rattle.key_tuple.specs.KeyPlace.{KeyPlace, At, before}
use Rattle.index_page.specs.Page.{PageRows, FitsLevel}
use Rattle.index_page.specs.Rows.{Row, Child}
use Rattle.tree_law.specs.TreeShape.{first_from}
use Rattle.tree_law.specs.Pages.{from_place, pointers_of}
use Rattle.forest_law.specs.declared.objects.Frame.{Frame}
use Rattle.forest_law.specs.State.{ForestState}
use Rattle.forest_law.specs.Law.{IsLawful}
use Rattle.tree_restructure.specs.Pointers.{RangeHas}
use Rattle.tree_facts.specs.TreeFrames.{IsTreeFrame}

-- the key comes after the place of the row's pointer, and before that of the next one or, where
-- there is none, the page's end; and another key of as many fields comes before it
pub record IsInside (row : Row) (aft : List Row) (high : KeyPlace) (at : FieldList) : Type 0 where
  pub from : before (from_place row.key) (At at) ≡ true
  pub to : before (At at) (first_from (pointers_of aft) high) ≡ true
  pub lesser : FieldList
  pub as_many : length lesser ≡ length at
  pub above : before (At lesser) (At at) ≡ true

-- such a key is in the range of the row's pointer
abbrev pub RangesHaveCuts : Type 0
RangesHaveCuts =
    (page : PageRows)
    → AllByRecursion (λ (x : Row). length x.key ≡ page.head.fields) page.rows
    → AllByRecursion (λ (x : Row). FitsLevel page.head.level x.body) page.rows
    → (fore : List Row) (row : Row) (aft : List Row) → page.rows ≡ fore ++ row ∷ aft
    → (child : ℕ) → row.body ≡ Child child
    → (high : KeyPlace) (at : FieldList) → length at ≡ page.head.fields → IsInside row aft high at
    → RangeHas page child at

-- the key of a row of a page that isn't its first is in the range of the pointer to the page, so
-- that the page may be cut there
abbrev pub CutsAreInRanges : Type 0
CutsAreInRanges =
    (w : ForestState) → IsLawful w → (b : ℕ) (f : Frame) (page : PageRows) → IsTreeFrame w b f page
    → (fore : List Row) (row : Row) (aft : List Row) → page.rows ≡ fore ++ row ∷ aft
    → (n : ℕ) → row.body ≡ Child n
    → (c : ℕ) (g : Frame) (child : PageRows) → IsTreeFrame w c g child → child.head.number ≡ n
    → (first : Row) (lower : List Row) (cut : Row) (upper : List Row)
    → child.rows ≡ first ∷ lower ++ cut ∷ upper
    → RangeHas page n cut.key
