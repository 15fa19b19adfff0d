-- The pool and a frame in hand, and a page that comes to the frame or goes from it.
use Rattle.std.specs.Prelude.{ℕ, ◌≡◌, ◌≢◌, ◌<◌, Option, Some, None, [], ◌∷◌, List, length, slice_set}
use Rattle.latch_law.specs.Rule.{Holds}
use Rattle.latch_law.specs.Views.{holding, settling}
use Rattle.latch_space.specs.Has.{IsKnown}
use Rattle.latch_space.specs.Passes.{view, known_values, count}
use Rattle.clock_law.specs.ModifyClock.{raised, ClockRises}
use Rattle.learning.specs.Opening.{opening_block}
use Rattle.index_page.specs.Page.{PageRows}
use Rattle.forest_law.specs.declared.objects.Frame.{Frame}
use Rattle.forest_law.specs.declared.objects.Stored.{Stored}
use Rattle.forest_law.specs.declared.objects.Pool.{Pool}
use Rattle.forest_law.specs.declared.objects.Where.{Where}
use Rattle.forest_law.specs.declared.objects.Where.TheVariants.{Free, InFrame, Image}
use Rattle.forest_law.specs.declared.objects.Object.{Object}
use Rattle.forest_law.specs.declared.objects.Object.TheVariants as object
use Rattle.forest_law.specs.Numbers.{pool_id, frame_id}
use Rattle.forest_law.specs.State.{where_at, fields_for}
use Rattle.forest_law.specs.Counted.{CountsStay}
use Rattle.forest_law.specs.Placed.{KeepsPlace}
use Rattle.forest_law.specs.HashKept.{KeepsHash}
use Rattle.forest_law.specs.Law.{Follows}
use Rattle.forest_law.specs.Outside.{HasNoOutside}
use Rattle.forest_law.specs.PoolSteps.{PoolStep}
use Rattle.forest_world.specs.Held.{TreePass, shape_of_pass, IsKnownBeyond}
use Rattle.forest_world.specs.HashHands.{FrameRestsHash}
use Rattle.call_law.specs.Hands.{HoldsTheRest, HoldsNoOutside}
use Rattle.buffer_pool.specs.Hands.{HasOut}
use Rattle.buffer_pool.specs.Pools.{HasPoolOut}
use Rattle.buffer_pool.specs.Pages.{HasNumber}
use Rattle.buffer_pool.specs.Ages.{IsAged, IsAgeless}
use Rattle.buffer_pool.specs.AsTaken.{StaysTaken}
use Rattle.buffer_pool.specs.Causes.{HasAged, GoesToImage}
use Rattle.buffer_pool.specs.Tries.{Tries, TriesGivingParts, KnowsPool, HoldsPoolAndFrame, TurnsBoth}

-- the page of the number has this place and this image, and all else in the pool is as it was
pub record PutsPage (x : Pool) (n : ℕ) (to : Where) (image : Option Stored)
    (y : Pool) : Type 0 where
  pub place : y.place.items ≡ slice_set x.place.items n to
  pub images : y.images.items ≡ slice_set x.images.items n image
  pub ages : y.ages ≡ x.ages
  pub tick : y.tick ≡ x.tick

-- the frame had this page in these bounds, and has none now, at a clock that rose
pub record UnloadsFrame (f : Frame) (s : Stored) (g : Frame) : Type 0 where
  pub page : f.page ≡ Some s.page
  pub low : f.low ≡ s.low
  pub high : f.high ≡ s.high
  pub empty : g ≡ record f { page = None; low = None; high = None; clock = raised f.clock }
  pub clock : ClockRises f.clock g.clock

-- the frame has a page, and the pool a place and an image of its number
pub record HasPlaces (f : Frame) (x : Pool) : Type 0 where
  pub page : PageRows
  pub paged : f.page ≡ Some page
  pub place : page.head.number < length x.place.items
  pub image : page.head.number < length x.images.items

-- what was in the frame is an image now
pub record SetsAside (f : Frame) (x : Pool) (g : Frame) (y : Pool) : Type 0 where
  pub stored : Stored
  pub unloads : UnloadsFrame f stored g
  pub puts : PutsPage x stored.page.head.number Image (Some stored) y

-- the number of the frame's page is free now, and the block has age 0
pub record ClearsFrame (f : Frame) (x : Pool) (b : ℕ) (g : Frame) (y : Pool) : Type 0 where
  pub stored : Stored
  pub unloads : UnloadsFrame f stored g
  pub between : Pool
  pub puts : PutsPage x stored.page.head.number Free None between
  pub ageless : IsAgeless between b y

-- the frame with this page in these bounds, and the figures that a block begins with
abbrev pub loaded_with : Frame → Stored → Frame
loaded_with f s = record f {
  page = Some s.page;
  low = s.low;
  high = s.high;
  figures = opening_block;
}

-- the pool has as many entries as before, and keeps the place and the image of each page but that
-- of the number
pub record KeepsOthers (x : Pool) (n : ℕ) (y : Pool) : Type 0 where
  pub counted : CountsStay x y
  pub elsewhere : (m : ℕ) → m ≢ n → KeepsPlace x y m

-- the block's frame and the pool were taken out, and it follows that they come back as these, where
-- that keeps the hash: the frame rests for it, and all else that is held is what it is known to be
pub record MayTurn (p : TreePass) (b : ℕ) (g : Frame) (y : Pool) : Type 0 where
  pub old : Frame
  pub out : HasOut p b old
  pub pool : Pool
  pub pool_out : HasPoolOut p pool
  pub others : IsKnownBeyond p (pool_id ∷ frame_id (shape_of_pass p) b ∷ [])
  pub number : ℕ
  pub keeps : KeepsOthers pool number y
  pub rests : FrameRestsHash (shape_of_pass p) b old g
  pub follows : (news : List (Option Object))
      → PoolStep (shape_of_pass p) (known_values p) news number
      (record { block = b; old = old; new = g }) pool y
      → KeepsHash (shape_of_pass p) (known_values p) news
      → Follows (shape_of_pass p) (known_values p) news None

-- they are back, and known as they are; all else that is held is what it was and what it is known
-- to be
pub record TurnsBack (p : TreePass) (b : ℕ) (g : Frame) (y : Pool) (q : TreePass) : Type 0 where
  pub frame : (t : Object) (f : Frame)
      → Holds (view p) (frame_id (shape_of_pass p) b) (holding t (object.Frame f))
      → Holds (view q) (frame_id (shape_of_pass p) b) (holding t (object.Frame g))
  pub pool : (t : Object) (x : Pool) → Holds (view p) pool_id (holding t (object.Pool x))
      → Holds (view q) pool_id (holding t (object.Pool y))
  pub rest : HoldsTheRest (view p) (view q) (pool_id ∷ frame_id (shape_of_pass p) b ∷ [])
  pub known : IsKnown q
  pub count : count q ≡ count p
  pub values : List (Option Object)
  pub view : view q ≡ settling (view p) values

-- what was in the block's frame is an image; all other pages keep their places, and all blocks
-- their ages
pub record ClearsBlock (x : Pool) (b : ℕ) (y : Pool) : Type 0 where
  pub gone : GoesToImage x b y
  pub keeps : (m : ℕ) → where_at x.place.items m ≢ InFrame b
      → where_at y.place.items m ≡ where_at x.place.items m
  pub ages : y.ages ≡ x.ages
  pub tick : y.tick ≡ x.tick

-- the block's frame has no page, and what was in it is an image; partitions alone were given back
pub record EmptiesFrame (p : TreePass) (b : ℕ) (t : Object) (x : Pool) (q : TreePass) : Type 0 where
  pub pool : Pool
  pub frame : Frame
  pub tries : TriesGivingParts p q (pool_id ∷ frame_id (shape_of_pass p) b ∷ [])
  pub both : HoldsPoolAndFrame q b t pool frame
  pub taken : StaysTaken p q b frame
  pub count : count q ≡ count p
  pub empty : frame.page ≡ None
  pub clears : ClearsBlock x b pool

-- the pool is known to be one in which the block has a new age, and all else is as it was
pub record SetsAge (p : TreePass) (b : ℕ) (t : Object) (x : Pool) (q : TreePass) : Type 0 where
  pub pool : Pool
  pub tries : Tries p q (pool_id ∷ [])
  pub knows : KnowsPool (view q) t pool
  pub aged : IsAged x b pool
  pub count : count q ≡ count p

-- the pool and the block's frame are held, which has no page, and the page of the number is an
-- image
pub record MayRestore (p : TreePass) (b n : ℕ) : Type 0 where
  pub taken : Object
  pub pool : Pool
  pub frame : Frame
  pub both : HoldsPoolAndFrame p b taken pool frame
  pub empty : frame.page ≡ None
  pub stored : where_at pool.place.items n ≡ Image

-- the page of the number, one of the trees, has come from its image to the block's frame, and all
-- others have their places
pub record RestoresTo (p : TreePass) (b n : ℕ) (t : Object) (x : Pool) (q : TreePass) : Type 0 where
  pub pool : Pool
  pub frame : Frame
  pub turns : TurnsBoth p b t q pool frame
  pub has : HasNumber frame n
  pub inside : HasNoOutside frame
  pub placed : where_at pool.place.items n ≡ InFrame b
  pub keeps : KeepsOthers x n pool
  pub aged : HasAged x b pool

-- the pool and the block's frame are held, which has no page, and the page's number is free; the
-- page is outside the trees, as none in hand is, and has its index's number of fields
pub record MayBring (p : TreePass) (b : ℕ) (page : PageRows) : Type 0 where
  pub taken : Object
  pub pool : Pool
  pub frame : Frame
  pub both : HoldsPoolAndFrame p b taken pool frame
  pub empty : frame.page ≡ None
  pub below : page.head.number < length pool.place.items
  pub free : where_at pool.place.items page.head.number ≡ Free
  pub index : page.head.index < (shape_of_pass p).indexes
  pub own : page.head.prev ≡ Some page.head.number
  pub rows : page.rows ≡ []
  pub fields : page.head.fields ≡ fields_for (shape_of_pass p) page.head.index
  pub alone : HoldsNoOutside (view p)

-- the page has come to the block's frame, under its number, with no bounds, and isn't hashed
pub record BringsTo (p : TreePass) (b : ℕ) (page : PageRows) (t : Object) (x : Pool)
    (q : TreePass) : Type 0 where
  pub pool : Pool
  pub frame : Frame
  pub turns : TurnsBoth p b t q pool frame
  pub placed : where_at pool.place.items page.head.number ≡ InFrame b
  pub keeps : KeepsOthers x page.head.number pool
  pub paged : frame.page ≡ Some page
  pub low : frame.low ≡ None
  pub high : frame.high ≡ None
  pub hashed : frame.hashed ≡ None
  pub aged : HasAged x b pool

-- the pool and the block's frame are held, which has an empty page outside the trees, and isn't
-- hashed
pub record MayFree (p : TreePass) (b : ℕ) (page : PageRows) : Type 0 where
  pub taken : Object
  pub pool : Pool
  pub frame : Frame
  pub both : HoldsPoolAndFrame p b taken pool frame
  pub paged : frame.page ≡ Some page
  pub own : page.head.prev ≡ Some page.head.number
  pub rows : page.rows ≡ []
  pub hashed : frame.hashed ≡ None

-- the page of the frame is gone: its number is free, and the frame has none, at a clock that rose
pub record FreesFrom (p : TreePass) (b n : ℕ) (t : Object) (x : Pool) (f : Frame)
    (q : TreePass) : Type 0 where
  pub pool : Pool
  pub frame : Frame
  pub turns : TurnsBoth p b t q pool frame
  pub placed : pool.place.items ≡ slice_set x.place.items n Free
  pub ages : pool.ages ≡ slice_set x.ages b 0
  pub empty : frame.page ≡ None
  pub clock : ClockRises f.clock frame.clock
