-- Pages that take part in a step.
use Rattle.std.specs.Prelude.{ℕ, ◌≡◌, ◌≢◌, Option, Some, None, List, map}
use Rattle.std.specs.List.{AllByRecursion}
use mathlib.Core.Option.{some}
use lib.ListN.{get_elem?}
use Rattle.index_page.specs.Page.{PageRows}
use Rattle.tree_law.specs.TreeShape.{In}
use Rattle.tree_law.specs.Pages.{Page}
use Rattle.tree_law.specs.PageChanges.{PageChange}
use Rattle.index_law.specs.Shape.{Shape}
use Rattle.forest_law.specs.declared.objects.Frame.{Frame}
use Rattle.forest_law.specs.declared.objects.Stored.{Stored}
use Rattle.forest_law.specs.declared.objects.Pool.{Pool}
use Rattle.forest_law.specs.declared.objects.Where.{Where}
use Rattle.forest_law.specs.declared.objects.Where.TheVariants.{Free, InFrame, Image}
use Rattle.forest_law.specs.declared.objects.Object.{Object}
use Rattle.forest_law.specs.declared.objects.Object.TheVariants as object
use Rattle.forest_law.specs.Numbers.{pool_id, frame_id}
use Rattle.forest_law.specs.State.{page_within, page_in, image_at}

-- a page that takes part in a step: where it was and is, and what it was and is
pub record Turn : Type 0 where
  pub number : ℕ
  pub from : Where
  pub to : Where
  pub old : Option Page
  pub new : Option Page

-- the frame has a page of this number, and with its bounds it is this one
pub record HasPage (f : Frame) (n : ℕ) (page : Page) : Type 0 where
  pub rows : PageRows
  pub paged : f.page ≡ Some rows
  pub number : rows.head.number ≡ n
  pub is : page_in f ≡ Some page

-- the block's frame is in hand, and it has this page, of this number
pub record IsInHand (shape : Shape) (held : List (Option Object)) (n b : ℕ)
    (page : Page) : Type 0 where
  pub frame : Frame
  pub at : get_elem? held (frame_id shape b) ≡ some (Some (object.Frame frame))
  pub has : HasPage frame n page

-- the image has a page of this number, and with its bounds it is this one
pub record HasImage (s : Stored) (n : ℕ) (page : Page) : Type 0 where
  pub number : s.page.head.number ≡ n
  pub is : page_within s.page s.low s.high ≡ page

-- the pool is in hand, and it has an image of this page, of this number
pub record IsStored (held : List (Option Object)) (n : ℕ) (page : Page) : Type 0 where
  pub pool : Pool
  pub at : get_elem? held pool_id ≡ some (Some (object.Pool pool))
  pub image : Stored
  pub stored : image_at pool.images.items n ≡ Some image
  pub has : HasImage image n page

-- at this place, as it is seen in hand, the page of this number is this one, or there is none
abbrev pub IsSeen : Shape → List (Option Object) → ℕ → Where → Option Page → Type 0
IsSeen shape held n Free page = page ≡ None
IsSeen shape held n (InFrame b) page =
    (p : Page) × (page ≡ Some p) × IsInHand shape held n b p
IsSeen shape held n Image page = (p : Page) × (page ≡ Some p) × IsStored held n p

-- no turn is of this page
abbrev pub IsApart : ℕ → List Turn → Type 0
IsApart n turns = AllByRecursion (λ (t : Turn). n ≢ t.number) turns

-- one of the turns is of this page
pub record IsTurned (turns : List Turn) (n : ℕ) : Type 0 where
  pub turn : Turn
  pub among : In turn turns
  pub number : turn.number ≡ n

-- what the turns make of the pages
abbrev pub page_changes : List Turn → List PageChange
page_changes turns =
    map (λ (t : Turn). record { number = t.number; old = t.old; new = t.new }) turns

-- a turn as it is seen in hand
pub record IsTurn (shape : Shape) (before news : List (Option Object)) (t : Turn) : Type 0 where
  pub was : IsSeen shape before t.number t.from t.old
  pub is : IsSeen shape news t.number t.to t.new
