-- What the frame of a page tells of the pages beside it.
use Rattle.std.specs.Prelude.{ℕ, ◌≡◌, ◌≢◌, false, Some}
use Rattle.index_page.specs.Page.{PageRows}
use Rattle.tree_law.specs.Pages.{Page, is_own, low_place, high_place}
use Rattle.forest_law.specs.declared.objects.Frame.{Frame}
use Rattle.forest_law.specs.State.{ForestState, pages_of}
use Rattle.forest_law.specs.Law.{IsLawful}
use Rattle.tree_facts.specs.TreeFrames.{IsTreeFrame, low_of, high_of}

-- the page m, which is another one, is the page after that of the frame f: one of the trees, of the
-- same index and level, that begins where that one ends and leads back to it
pub record HasNextPage (w : ForestState) (f : Frame) (page : PageRows) (m : ℕ) : Type 0 where
  pub after : Page
  pub at : pages_of w.shape w.objects m ≡ Some after
  pub tree : is_own m after.prev ≡ false
  pub index : after.index ≡ page.head.index
  pub level : after.level ≡ page.head.level
  pub fields : after.fields ≡ page.head.fields
  pub other : m ≢ page.head.number
  pub meets : low_place after.low ≡ high_of f
  pub back : after.prev ≡ Some page.head.number

-- so it is with the page after one of the trees
abbrev pub NextPagesFit : Type 0
NextPagesFit =
    (w : ForestState) → IsLawful w → (b : ℕ) (f : Frame) (page : PageRows) → IsTreeFrame w b f page
    → (m : ℕ) → page.head.next ≡ Some m → HasNextPage w f page m

-- the page m, which is another one, is the page before that of the frame f: one of the trees, of
-- the same index and level, that ends where that one begins
pub record HasPreviousPage (w : ForestState) (f : Frame) (page : PageRows) (m : ℕ) : Type 0 where
  pub former : Page
  pub at : pages_of w.shape w.objects m ≡ Some former
  pub tree : is_own m former.prev ≡ false
  pub index : former.index ≡ page.head.index
  pub level : former.level ≡ page.head.level
  pub other : m ≢ page.head.number
  pub meets : high_place former.high ≡ low_of f

-- so it is with the page before one of the trees
abbrev pub PreviousPagesFit : Type 0
PreviousPagesFit =
    (w : ForestState) → IsLawful w → (b : ℕ) (f : Frame) (page : PageRows) → IsTreeFrame w b f page
    → (m : ℕ) → page.head.prev ≡ Some m → HasPreviousPage w f page m
