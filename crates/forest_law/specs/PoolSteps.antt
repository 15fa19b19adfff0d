-- A page comes to a frame or goes from it, with the pool in hand: one outside the trees, whose
-- number was free or is, and any page, from its image or to it.
use Rattle.std.specs.Prelude.{ℕ, ◌≡◌, ◌≢◌, false, Option, Some, None, List}
use Rattle.tree_law.specs.Pages.{Page, is_own, IsOrderly}
use Rattle.tree_law.specs.PageMoves.{IsOutside}
use Rattle.index_law.specs.Shape.{Shape}
use Rattle.forest_law.specs.declared.objects.Stored.{Stored}
use Rattle.forest_law.specs.declared.objects.Pool.{Pool}
use Rattle.forest_law.specs.declared.objects.Where.TheVariants.{Free, InFrame, Image}
use Rattle.forest_law.specs.declared.objects.Object.{Object}
use Rattle.forest_law.specs.declared.objects.Object.TheVariants as object
use Rattle.forest_law.specs.Numbers.{pool_id, frame_id}
use Rattle.forest_law.specs.State.{where_at, image_at, fields_for}
use Rattle.forest_law.specs.Objects.{Becomes}
use Rattle.forest_law.specs.Counted.{CountsStay}
use Rattle.forest_law.specs.Turns.{HasPage, HasImage}
use Rattle.forest_law.specs.Outside.{HasNoneOutside}
use Rattle.forest_law.specs.Placed.{KeepsPlace}
use Rattle.forest_law.specs.Steps.{Rests, InHand, ClockStands, FrameClockRises}

-- the pool and a frame are in hand; the pool, whose ages and tick may change, keeps the place and
-- the image of each page but that of the number, and all else in hand is at rest
pub record PoolStep (shape : Shape) (before news : List (Option Object)) (number : ℕ)
    (hand : InHand) (old new : Pool) : Type 0 where
  pub pool : Becomes before news pool_id (object.Pool old) (object.Pool new)
  pub frame : Becomes before news (frame_id shape hand.block) (object.Frame hand.old)
      (object.Frame hand.new)
  pub counted : CountsStay old new
  pub elsewhere : (n : ℕ) → n ≢ number → KeepsPlace old new n
  pub others : (k : ℕ) (x y : Object) → Becomes before news k x y → k ≢ pool_id
      → k ≢ frame_id shape hand.block → Rests x y

-- a page outside the trees comes while no other is in hand: its number was free, and the frame had
-- none
pub record BringsPage (shape : Shape) (before news : List (Option Object)) : Type 0 where
  pub number : ℕ
  pub hand : InHand
  pub old : Pool
  pub new : Pool
  pub step : PoolStep shape before news number hand old new
  pub page : Page
  pub was : where_at old.place.items number ≡ Free
  pub is : where_at new.place.items number ≡ InFrame hand.block
  pub unstored : image_at new.images.items number ≡ None
  pub empty : hand.old.page ≡ None
  pub has : HasPage hand.new number page
  pub outside : IsOutside number (Some page)
  pub alone : HasNoneOutside shape before
  pub order : IsOrderly (fields_for shape) page
  pub clock : ClockStands hand

-- a page outside the trees goes: its number is free, the frame has none, and its clock rises
pub record TakesPage (shape : Shape) (before news : List (Option Object)) : Type 0 where
  pub number : ℕ
  pub hand : InHand
  pub old : Pool
  pub new : Pool
  pub step : PoolStep shape before news number hand old new
  pub page : Page
  pub was : where_at old.place.items number ≡ InFrame hand.block
  pub is : where_at new.place.items number ≡ Free
  pub unstored : image_at new.images.items number ≡ None
  pub had : HasPage hand.old number page
  pub empty : hand.new.page ≡ None
  pub outside : IsOutside number (Some page)
  pub clock : FrameClockRises hand

-- a page of the trees goes to its image, with its bounds: the frame has none, and its clock rises
pub record EvictsPage (shape : Shape) (before news : List (Option Object)) : Type 0 where
  pub number : ℕ
  pub hand : InHand
  pub old : Pool
  pub new : Pool
  pub step : PoolStep shape before news number hand old new
  pub page : Page
  pub image : Stored
  pub was : where_at old.place.items number ≡ InFrame hand.block
  pub is : where_at new.place.items number ≡ Image
  pub stored : image_at new.images.items number ≡ Some image
  pub had : HasPage hand.old number page
  pub has : HasImage image number page
  pub tree : is_own number page.prev ≡ false
  pub empty : hand.new.page ≡ None
  pub order : IsOrderly (fields_for shape) page
  pub clock : FrameClockRises hand

-- a page of the trees comes from its image, with its bounds: the frame had none, and its clock
-- stands
pub record RestoresPage (shape : Shape) (before news : List (Option Object)) : Type 0 where
  pub number : ℕ
  pub hand : InHand
  pub old : Pool
  pub new : Pool
  pub step : PoolStep shape before news number hand old new
  pub page : Page
  pub image : Stored
  pub was : where_at old.place.items number ≡ Image
  pub is : where_at new.place.items number ≡ InFrame hand.block
  pub stored : image_at old.images.items number ≡ Some image
  pub unstored : image_at new.images.items number ≡ None
  pub had : HasImage image number page
  pub tree : is_own number page.prev ≡ false
  pub empty : hand.old.page ≡ None
  pub has : HasPage hand.new number page
  pub order : IsOrderly (fields_for shape) page
  pub clock : ClockStands hand
