-- Leaves in hand, and what is left of those that were given back.
use Rattle.std.specs.Prelude.{ℕ, ◌≡◌, List, length}
use Rattle.latch_law.specs.declared.knows.Reference.{Reference}
use Rattle.latch_law.specs.Whole.{reference}
use Rattle.latch_space.specs.Has.{IsKnown}
use Rattle.latch_space.specs.Passes.{view, count}
use Rattle.index_law.specs.Shape.{Shape}
use Rattle.forest_law.specs.declared.objects.Frame.{Frame}
use Rattle.forest_law.specs.declared.objects.Object.{Object}
use Rattle.forest_law.specs.declared.objects.Object.TheVariants as object
use Rattle.forest_law.specs.Numbers.{frame_id}
use Rattle.forest_world.specs.Held.{TreePass}
use Rattle.call_law.specs.Hands.{HoldsNoFrameBut, HoldsNoTable}
use Rattle.buffer_pool.specs.Pages.{HasTreePage}

-- the pass holds frames of these blocks alone, and each is what it is known to be
pub record HoldsLeavesAlone (p : TreePass) (bs : List ℕ) : Type 0 where
  pub known : IsKnown p
  pub frames : HoldsNoFrameBut (view p) bs
  pub tables : HoldsNoTable (view p)
  pub count : count p ≡ length bs

-- the reference is of a frame that had a leaf of the index when it was given back
pub record IsLeafReference (shape : Shape) (i : ℕ) (q : Reference Object) : Type 0 where
  pub block : ℕ
  pub taken : Object
  pub frame : Frame
  pub is : q ≡ reference (frame_id shape block) taken (object.Frame frame)
  pub page : HasTreePage frame i 0
