-- Frames with pages of the trees.
use Rattle.std.specs.Prelude.{ℕ, ◌≡◌, false, Some}
use Rattle.key_tuple.specs.KeyPlace.{KeyPlace}
use Rattle.index_page.specs.Page.{PageRows}
use Rattle.tree_law.specs.Pages.{is_own, low_place, high_place}
use Rattle.forest_law.specs.declared.objects.Frame.{Frame}
use Rattle.forest_law.specs.State.{ForestState, bound}
use Rattle.forest_law.specs.Objects.{IsFrameOf}

-- the block b has this frame, whose page is in the trees
pub record IsTreeFrame (w : ForestState) (b : ℕ) (f : Frame) (page : PageRows) : Type 0 where
  pub at : IsFrameOf w.shape w.objects b f
  pub paged : f.page ≡ Some page
  pub tree : is_own page.head.number page.head.prev ≡ false

-- where the range of a frame's page begins
abbrev pub low_of : Frame → KeyPlace
low_of f = low_place (bound f.low)

-- where the range of a frame's page ends
abbrev pub high_of : Frame → KeyPlace
high_of f = high_place (bound f.high)
