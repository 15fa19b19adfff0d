-- What a lawful state tells of the page in a frame.
use Rattle.std.specs.Prelude.{ℕ, ◌≡◌, ◌<◌, Bool, true, false, Some, []}
use Rattle.key_tuple.specs.KeyPlace.{KeyPlace, IsCut}
use Rattle.index_page.specs.Page.{PageRows}
use Rattle.tree_law.specs.TreeShape.{tag_of, IsSound, HasCut}
use Rattle.tree_law.specs.Pages.{Page, is_own, low_place, high_place, pointers_of, outline, forest, IsOrderly}
use Rattle.forest_law.specs.declared.objects.Frame.{Frame}
use Rattle.forest_law.specs.State.{ForestState, page_within, pages_of, heights_of, fields_for}
use Rattle.forest_law.specs.Objects.{IsFrameOf}
use Rattle.forest_law.specs.Law.{IsLawful}

-- the page in a frame is the state's page of its number, and it is in order by itself; in the trees
-- it is sound, and outside them it has no rows
pub record TellsPage (w : ForestState) (f : Frame) (rows : PageRows) : Type 0 where
  pub below : rows.head.number < w.shape.pages
  pub is : pages_of w.shape w.objects rows.head.number ≡ Some (page_within rows f.low f.high)
  pub order : IsOrderly (fields_for w.shape) (page_within rows f.low f.high)
  pub sound : is_own rows.head.number rows.head.prev ≡ false
      → IsSound w.shape.indexes (heights_of w.objects)
      (tag_of (outline (page_within rows f.low f.high))) (pointers_of rows.rows)
  pub outside : rows.head.prev ≡ Some rows.head.number → rows.rows ≡ []

-- so it is with each frame that has a page
abbrev pub FramesTellPages : Type 0
FramesTellPages =
    (w : ForestState) → IsLawful w → (b : ℕ) (f : Frame) (rows : PageRows)
    → IsFrameOf w.shape w.objects b f → f.page ≡ Some rows → TellsPage w f rows

-- no two frames have pages of one number
abbrev pub FramesHaveOnePage : Type 0
FramesHaveOnePage =
    (w : ForestState) → IsLawful w → (b c : ℕ) (f g : Frame) (p q : PageRows)
    → IsFrameOf w.shape w.objects b f → IsFrameOf w.shape w.objects c g
    → f.page ≡ Some p → g.page ≡ Some q → p.head.number ≡ q.head.number → b ≡ c

-- the page n is one of the trees, of this index and level, with the cut in its bounds
pub record HasCutPage (w : ForestState) (p : KeyPlace → Bool) (i level n : ℕ) : Type 0 where
  pub page : Page
  pub at : pages_of w.shape w.objects n ≡ Some page
  pub tree : is_own n page.prev ≡ false
  pub index : page.index ≡ i
  pub at_level : page.level ≡ level
  pub low : p (low_place page.low) ≡ false
  pub high : p (high_place page.high) ≡ true

-- so it is with the page of the trees that has a cut
abbrev pub CutsHavePages : Type 0
CutsHavePages =
    (w : ForestState) → IsLawful w → (p : KeyPlace → Bool) → (i level n : ℕ)
    → HasCut (forest (pages_of w.shape w.objects)) p i level n → HasCutPage w p i level n

-- the root of an index has each cut: it is the page of the index's number, at the tree's height
abbrev pub RootsHaveCuts : Type 0
RootsHaveCuts =
    (w : ForestState) → IsLawful w → (p : KeyPlace → Bool) → IsCut p → (i : ℕ) → i < w.shape.indexes
    → HasCutPage w p i (heights_of w.objects i) i
