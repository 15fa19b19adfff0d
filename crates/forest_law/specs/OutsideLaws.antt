-- What a lawful state tells of pages outside the trees, and of how many pages there are.
use Rattle.std.specs.Prelude.{ℕ, ◌≡◌, ◌≢◌, ◌<◌, false, Some}
use Rattle.latch_law.specs.Whole.{IsFree}
use Rattle.tree_law.specs.Pages.{is_own}
use Rattle.index_law.specs.Rightness.{IsShort}
use Rattle.forest_law.specs.declared.objects.Frame.{Frame}
use Rattle.forest_law.specs.declared.objects.Stored.{Stored}
use Rattle.forest_law.specs.declared.objects.Where.TheVariants.{Free}
use Rattle.forest_law.specs.Numbers.{frame_id}
use Rattle.forest_law.specs.State.{ForestState, where_at, places, image_at, images}
use Rattle.forest_law.specs.Objects.{IsFrameOf}
use Rattle.forest_law.specs.Law.{IsLawful}
use Rattle.forest_law.specs.Outside.{HasNoOutside}

-- a frame that nobody holds has no page outside the trees, and no image is of one
pub record OutsideIsHeld : Type 0 where
  pub frames : (w : ForestState) → IsLawful w → (b : ℕ) (f : Frame)
      → IsFrameOf w.shape w.objects b f → IsFree w (frame_id w.shape b) → HasNoOutside f
  pub images : (w : ForestState) → IsLawful w → (n : ℕ) (s : Stored)
      → image_at (images w.objects) n ≡ Some s → is_own n s.page.head.prev ≡ false

-- where each number has a page, there are so few that the trees may need them all
abbrev pub FullPoolsAreShort : Type 0
FullPoolsAreShort = (w : ForestState) → IsLawful w
    → ((n : ℕ) → n < w.shape.pages → where_at (places w.objects) n ≢ Free) → IsShort w
