-- The frame that makes room for a page: which one it is, and what is held then.
use Rattle.std.specs.Prelude.{ℕ, ◌≡◌, ◌+◌, Bool, true, false, Option, Some, None, [], ◌∷◌}
use Rattle.latch_law.specs.Rule.{Holds}
use Rattle.latch_law.specs.Views.{holding}
use Rattle.latch_space.specs.Passes.{view, count}
use Rattle.index_page.specs.Page.{PageRows}
use Rattle.forest_law.specs.declared.objects.Frame.{Frame}
use Rattle.forest_law.specs.declared.objects.Pool.{Pool}
use Rattle.forest_law.specs.declared.objects.Where.TheVariants.{InFrame}
use Rattle.forest_law.specs.declared.objects.Object.{Object}
use Rattle.forest_law.specs.declared.objects.Object.TheVariants as object
use Rattle.forest_law.specs.Numbers.{pool_id, frame_id}
use Rattle.forest_law.specs.Outside.{HasNoOutside}
use Rattle.forest_law.specs.State.{where_at}
use Rattle.forest_world.specs.Held.{TreePass, shape_of_pass}
use Rattle.call_law.specs.Hands.{KnowsFrame}
use Rattle.buffer_pool.specs.Causes.{TookVictim}
use Rattle.buffer_pool.specs.Hands.{LacksFrame}
use Rattle.buffer_pool.specs.Tries.{Tries, TriesGivingParts, IsTried, KnowsPool}
use Rattle.buffer_pool.specs.Turning.{ClearsBlock}

-- the block's frame is held besides, as it was taken, and has no page outside the trees
pub record HoldsFrameToo (p : TreePass) (b : ℕ) (q : TreePass) : Type 0 where
  pub tries : Tries p q (frame_id (shape_of_pass p) b ∷ [])
  pub lacked : LacksFrame p b
  pub frame : Frame
  pub knows : KnowsFrame (view q) b frame
  pub taken : Holds (view q) (frame_id (shape_of_pass p) b)
      (holding (object.Frame frame) (object.Frame frame))
  pub inside : HasNoOutside frame
  pub count : count q ≡ count p + 1

-- the block's frame was tried in vain, unless it was held before
pub record MissesFrame (p : TreePass) (b : ℕ) (q : TreePass) : Type 0 where
  pub tries : Tries p q []
  pub tried : LacksFrame p b → IsTried (frame_id (shape_of_pass p) b) tries.refused
  pub count : count q ≡ count p

-- what a try of a frame that may be held tells
abbrev pub TellsOther : TreePass → ℕ → Bool → TreePass → Type 0
TellsOther p b true q = HoldsFrameToo p b q
TellsOther p b false q = MissesFrame p b q

-- tries alone were added, and what was held is held
pub record TriedInVain (p q : TreePass) : Type 0 where
  pub tries : Tries p q []
  pub count : count q ≡ count p

-- a frame is held besides, the first that one try takes
pub record HoldsVictim (p : TreePass) (x : Pool) (b : ℕ) (q : TreePass) : Type 0 where
  pub holds : HoldsFrameToo p b q
  pub took : TookVictim p x b holds.tries.refused

-- what a look for such a frame tells
abbrev pub TellsVictim : TreePass → Pool → Option ℕ → TreePass → Type 0
TellsVictim p x (Some b) q = HoldsVictim p x b q
TellsVictim p x None q = TriedInVain p q

-- such a frame is held besides, and has no page; what was in it, as it was taken, is an image, and
-- partitions alone were given back
pub record HoldsRoom (p : TreePass) (b : ℕ) (t : Object) (x : Pool) (q : TreePass) : Type 0 where
  pub tries : TriesGivingParts p q (pool_id ∷ frame_id (shape_of_pass p) b ∷ [])
  pub took : TookVictim p x b tries.refused
  pub lacked : LacksFrame p b
  pub pool : Pool
  pub knew : KnowsPool (view q) t pool
  pub clears : ClearsBlock x b pool
  pub frame : Frame
  pub knows : KnowsFrame (view q) b frame
  pub was : Frame
  pub taken : Holds (view q) (frame_id (shape_of_pass p) b)
      (holding (object.Frame was) (object.Frame frame))
  pub named : (page : PageRows) → was.page ≡ Some page
      → where_at x.place.items page.head.number ≡ InFrame b
  pub empty : frame.page ≡ None
  pub count : count q ≡ count p + 1

-- what a look for room tells
abbrev pub TellsRoomFor : TreePass → Object → Pool → Option ℕ → TreePass → Type 0
TellsRoomFor p t x (Some b) q = HoldsRoom p b t x q
TellsRoomFor p t x None q = TriedInVain p q
