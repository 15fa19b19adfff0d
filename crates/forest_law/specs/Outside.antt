-- Pages outside the trees: each is in a frame that somebody holds, and nobody holds two.
use Rattle.std.specs.Prelude.{ℕ, ◌≡◌, ◌<◌, true, false, Option, Some, List}
use Rattle.std.specs.List.{AllByRecursion}
use mathlib.Core.Option.{some}
use lib.ListN.{get_elem?}
use Rattle.latch_law.specs.Whole.{IsHeldBy}
use Rattle.index_page.specs.Page.{PageRows}
use Rattle.tree_law.specs.Pages.{Page, is_own}
use Rattle.index_law.specs.Shape.{Shape}
use Rattle.forest_law.specs.declared.objects.Frame.{Frame}
use Rattle.forest_law.specs.declared.objects.Where.TheVariants.{InFrame, Image}
use Rattle.forest_law.specs.declared.objects.Object.{Object}
use Rattle.forest_law.specs.declared.objects.Object.TheVariants as object
use Rattle.forest_law.specs.Numbers.{frame_id}
use Rattle.forest_law.specs.State.{ForestState, where_at, places, pages_of}
use Rattle.forest_law.specs.Turns.{Turn, IsInHand}

-- the page of this number is outside the trees, in a frame that the pass of this name holds
pub record IsHeldOutside (w : ForestState) (n name : ℕ) : Type 0 where
  pub block : ℕ
  pub page : Page
  pub place : where_at (places w.objects) n ≡ InFrame block
  pub is : pages_of w.shape w.objects n ≡ Some page
  pub own : is_own n page.prev ≡ true
  pub holder : IsHeldBy w (frame_id w.shape block) name

-- each page outside the trees is in a frame that some pass holds, and no pass holds two
pub record AreOutsideHeld (w : ForestState) : Type 0 where
  pub held : (n : ℕ) (page : Page) → pages_of w.shape w.objects n ≡ Some page
      → is_own n page.prev ≡ true → (name : ℕ) × (name < w.passes) × IsHeldOutside w n name
  pub one : (n m name : ℕ) → IsHeldOutside w n name → IsHeldOutside w m name → n ≡ m

-- of what is in hand a frame has the page of this number, which is outside the trees
pub record IsOutsideInHand (shape : Shape) (held : List (Option Object)) (n : ℕ) : Type 0 where
  pub block : ℕ
  pub page : Page
  pub hand : IsInHand shape held n block page
  pub own : is_own n page.prev ≡ true

-- no frame in hand has a page outside the trees
abbrev pub HasNoneOutside : Shape → List (Option Object) → Type 0
HasNoneOutside shape held = (n : ℕ) → IsOutsideInHand shape held n → ⊥

-- one at most has
abbrev pub HasOneOutside : Shape → List (Option Object) → Type 0
HasOneOutside shape held =
    (n m : ℕ) → IsOutsideInHand shape held n → IsOutsideInHand shape held m → n ≡ m

-- each object that is in hand was in hand before
abbrev pub NewsAreHeld : List (Option Object) → List (Option Object) → Type 0
NewsAreHeld before news = (k : ℕ) (y : Object) → get_elem? news k ≡ some (Some y)
    → (x : Object) × (get_elem? before k ≡ some (Some x))

-- where one page outside the trees was in hand at most, so it is of what was in hand, and none goes
-- to an image
pub record KeepsOneOutside (shape : Shape) (before news : List (Option Object))
    (turns : List Turn) : Type 0 where
  pub one : NewsAreHeld before news → HasOneOutside shape before → HasOneOutside shape news
  pub framed : AllByRecursion (λ (t : Turn). t.to ≡ Image → (page : Page) → t.new ≡ Some page
      → is_own t.number page.prev ≡ false) turns

-- the frame has no page outside the trees
abbrev pub HasNoOutside : Frame → Type 0
HasNoOutside f =
    (page : PageRows) → f.page ≡ Some page → is_own page.head.number page.head.prev ≡ false

-- the object may be given back: it is no frame that has a page outside the trees
abbrev pub MayGoBack : Object → Type 0
MayGoBack (object.Frame f) = HasNoOutside f
MayGoBack (object.Part p) = Unit {0}
MayGoBack (object.Pool p) = Unit {0}
MayGoBack (object.Tree t) = Unit {0}
