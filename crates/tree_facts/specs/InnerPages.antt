-- What the frame of an inner page tells of the pages that its rows point to.
use Rattle.std.specs.Prelude.{ℕ, suc, ◌<◌, ◌≡◌, ◌≢◌, Bool, true, false, Some, List, [], ◌∷◌, ◌++◌}
use Rattle.key_tuple.specs.KeyPlace.{KeyPlace, IsCut}
use Rattle.index_page.specs.Page.{PageRows}
use Rattle.index_page.specs.Picks.{IsPicked}
use Rattle.index_page.specs.Rows.{Row, Child, find_row}
use Rattle.tree_law.specs.PickLaws.{AreInner}
use Rattle.tree_law.specs.TreeShape.{Rise, first_from}
use Rattle.tree_law.specs.Pages.{Page, is_own, low_place, high_place, from_place, pointers_of}
use Rattle.forest_law.specs.declared.objects.Frame.{Frame}
use Rattle.forest_law.specs.State.{ForestState, pages_of}
use Rattle.forest_law.specs.Law.{IsLawful}
use Rattle.forest_law.specs.FramePages.{HasCutPage}
use Rattle.tree_facts.specs.TreeFrames.{IsTreeFrame, low_of, high_of}

-- the page has a row, each of its rows points, and the pointers rise and fill the frame's bounds
pub record FillsBounds (f : Frame) (page : PageRows) : Type 0 where
  pub some : page.rows ≢ []
  pub inner : AreInner page.rows
  pub begins : first_from (pointers_of page.rows) (high_of f) ≡ low_of f
  pub rise : Rise (pointers_of page.rows) (high_of f)

-- so it is with each page of the trees above the leaves
abbrev pub InnerPagesPoint : Type 0
InnerPagesPoint =
    (w : ForestState) → IsLawful w → (b : ℕ) (f : Frame) (page : PageRows) → IsTreeFrame w b f page
    → 0 < page.head.level → FillsBounds f page

-- where a page's bounds have a cut, the row that the cut picks points to the page of the level
-- below that has the cut
abbrev pub ChildrenHaveCuts : Type 0
ChildrenHaveCuts =
    (w : ForestState) → IsLawful w → (b : ℕ) (f : Frame) (page : PageRows) → IsTreeFrame w b f page
    → (level : ℕ) → page.head.level ≡ suc level
    → (p : KeyPlace → Bool) → IsCut p → p (low_of f) ≡ false → p (high_of f) ≡ true
    → (place : ℕ) → IsPicked p page.rows place
    → (row : Row) → find_row place page.rows ≡ Some row → (n : ℕ) → row.body ≡ Child n
    → HasCutPage w p page.head.index level n

-- the page n is one of the trees, of this index and level, with these bounds
pub record HasPageWithin (w : ForestState) (i level : ℕ) (from to : KeyPlace) (n : ℕ) : Type 0 where
  pub page : Page
  pub at : pages_of w.shape w.objects n ≡ Some page
  pub tree : is_own n page.prev ≡ false
  pub index : page.index ≡ i
  pub at_level : page.level ≡ level
  pub low : low_place page.low ≡ from
  pub high : high_place page.high ≡ to

-- the page that a row points to begins at the row's place, and ends at that of the next row, or
-- where the page with the row ends
abbrev pub PointersBoundChildren : Type 0
PointersBoundChildren =
    (w : ForestState) → IsLawful w → (b : ℕ) (f : Frame) (page : PageRows) → IsTreeFrame w b f page
    → (level : ℕ) → page.head.level ≡ suc level
    → (fore : List Row) (row : Row) (aft : List Row) → page.rows ≡ fore ++ row ∷ aft
    → (n : ℕ) → row.body ≡ Child n
    → HasPageWithin w page.head.index level (from_place row.key)
    (first_from (pointers_of aft) (high_of f)) n
