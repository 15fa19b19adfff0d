-- Each page is in the frame that the pool names, or is an image.
use Rattle.std.specs.Prelude.{ℕ, ◌≡◌, ◌≢◌, Option, Some, None, List, length}
use Rattle.std.specs.List.{AllByRecursion}
use Rattle.index_page.specs.Page.{PageRows}
use Rattle.index_law.specs.Shape.{Shape}
use Rattle.forest_law.specs.declared.objects.Frame.{Frame}
use Rattle.forest_law.specs.declared.objects.Stored.{Stored}
use Rattle.forest_law.specs.declared.objects.Pool.{Pool}
use Rattle.forest_law.specs.declared.objects.Where.TheVariants.{InFrame, Image}
use Rattle.forest_law.specs.declared.objects.Object.{Object}
use Rattle.forest_law.specs.declared.objects.Object.TheVariants as object
use Rattle.forest_law.specs.Numbers.{pool_id}
use Rattle.forest_law.specs.State.{where_at, places, image_at, images}
use Rattle.forest_law.specs.Objects.{IsFrameOf, Becomes}
use Rattle.forest_law.specs.Counted.{CountsStay}
use Rattle.forest_law.specs.Turns.{Turn, IsApart, IsTurned}

-- the page of this number is in the block's frame
pub record IsPageIn (shape : Shape) (objects : List Object) (n b : ℕ) : Type 0 where
  pub frame : Frame
  pub page : PageRows
  pub at : IsFrameOf shape objects b frame
  pub paged : frame.page ≡ Some page
  pub number : page.head.number ≡ n

-- the page of this number is an image, and its place says so
pub record IsImaged (objects : List Object) (n : ℕ) (s : Stored) : Type 0 where
  pub number : s.page.head.number ≡ n
  pub place : where_at (places objects) n ≡ Image

-- each frame's page is named by its place, and each frame that a place names has that page; each
-- image is that of its page, and each page whose place says so has an image
pub record ArePlaced (shape : Shape) (objects : List Object) : Type 0 where
  pub named : (b : ℕ) (f : Frame) (p : PageRows) → IsFrameOf shape objects b f → f.page ≡ Some p
      → where_at (places objects) p.head.number ≡ InFrame b
  pub there : (n b : ℕ) → where_at (places objects) n ≡ InFrame b → IsPageIn shape objects n b
  pub imaged : (n : ℕ) (s : Stored) → image_at (images objects) n ≡ Some s → IsImaged objects n s
  pub stored : (n : ℕ) → where_at (places objects) n ≡ Image
      → (s : Stored) × (image_at (images objects) n ≡ Some s)

-- a held frame keeps its page, and no turn begins there
pub record KeepsPage (turns : List Turn) (b : ℕ) (x y : Frame) : Type 0 where
  pub page : y.page ≡ x.page
  pub low : y.low ≡ x.low
  pub high : y.high ≡ x.high
  pub apart : AllByRecursion (λ (t : Turn). t.from ≢ InFrame b) turns

-- the page of a held frame takes part, and so does the one that it then has
pub record TurnsPage (turns : List Turn) (b : ℕ) (x y : Frame) : Type 0 where
  pub was : (p : PageRows) → x.page ≡ Some p → IsTurned turns p.head.number
  pub is : (q : PageRows) → y.page ≡ Some q
      → (t : IsTurned turns q.head.number) × (t.turn.to ≡ InFrame b)

-- a pool at rest: the places and images are those that they were, and there are as many ages; what
-- each age and the tick are may change
pub record PoolRests (x y : Pool) : Type 0 where
  pub places : y.place.items ≡ x.place.items
  pub images : y.images.items ≡ x.images.items
  pub ages : length y.ages ≡ length x.ages

-- the pool rests, if it is held, and each page that takes part stays in its frame
pub record PlacesStay (before news : List (Option Object)) (turns : List Turn) : Type 0 where
  pub same : (x y : Pool) → Becomes before news pool_id (object.Pool x) (object.Pool y)
      → PoolRests x y
  pub still : AllByRecursion
      (λ (t : Turn). (b : ℕ) × (t.from ≡ InFrame b) × (t.to ≡ InFrame b)) turns

-- the page of this number has the place and the image that it had
pub record KeepsPlace (old new : Pool) (n : ℕ) : Type 0 where
  pub place : where_at new.place.items n ≡ where_at old.place.items n
  pub image : image_at new.images.items n ≡ image_at old.images.items n

-- the held pool, which has as many entries as before, names the new places of the pages that take
-- part, of which those that are no image have none; all other places and images are as before
pub record PlacesTurn (before news : List (Option Object)) (turns : List Turn) : Type 0 where
  pub old : Pool
  pub new : Pool
  pub becomes : Becomes before news pool_id (object.Pool old) (object.Pool new)
  pub counted : CountsStay old new
  pub each : AllByRecursion
      (λ (t : Turn). (where_at old.place.items t.number ≡ t.from)
      × (where_at new.place.items t.number ≡ t.to)) turns
  pub gone : AllByRecursion
      (λ (t : Turn). t.to ≢ Image → image_at new.images.items t.number ≡ None) turns
  pub others : (n : ℕ) → IsApart n turns → KeepsPlace old new n
