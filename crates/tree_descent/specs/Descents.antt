-- What the calls that go down do.
use Rattle.std.specs.Prelude.{ℕ, suc, ◌≡◌, ◌+◌, Bool, List, [], ◌∷◌, ◌++◌}
use Rattle.key_tuple.specs.KeyPlace.{KeyPlace}
use Rattle.key_tuple.specs.Order.{FieldList}
use Rattle.key_tuple.specs.declared.mode.Mode.{Mode}
use Rattle.latch_law.specs.declared.knows.Reference.{Reference}
use Rattle.latch_space.specs.Passes.{view, count}
use Rattle.index_page.specs.Rows.{Row, Child}
use Rattle.forest_law.specs.declared.objects.Frame.{Frame}
use Rattle.forest_law.specs.declared.objects.Object.{Object}
use Rattle.forest_law.specs.Numbers.{frame_id}
use Rattle.forest_world.specs.Held.{TreePass, shape_of_pass}
use Rattle.call_law.specs.Hands.{KnowsFrame}
use Rattle.call_law.specs.Spoken.{View}
use Rattle.call_law.specs.Trace.{Added, frame_references}
use Rattle.buffer_pool.specs.AsTaken.{AreAsTaken, HoldsAsTaken}
use Rattle.buffer_pool.specs.Calls.{DoesSilently}
use Rattle.buffer_pool.specs.Hands.{LacksFrame}
use Rattle.buffer_pool.specs.Pages.{PointsAt}
use Rattle.tree_descent.specs.declared.descending.Leaf.{Leaf}
use Rattle.tree_descent.specs.Leaves.{cut_in, IsPageFor, IsLeafFor}
use Rattle.tree_descent.specs.Paths.{PicksChild, LeadFromRoot}

-- of the references of frames that were added the last are the path from the root to the page n;
-- those before are of ways that were left
pub record AddsPath (p : TreePass) (cut : KeyPlace → Bool) (i level n : ℕ) (added : Added) : Type 0
  where
    pub vain : List (Reference Object)
    pub path : List (Reference Object)
    pub references : frame_references added.references ≡ vain ++ path
    pub leads : LeadFromRoot (shape_of_pass p) cut i level n path

-- the leaf with the tuple's position is held besides; each frame that kept its page was given back,
-- or is held, as it was taken
pub record Descends (p : TreePass) (i : ℕ) (mode : Mode) (tuple : FieldList) (leaf : Leaf)
    (q : TreePass) : Type 0 where
  pub silently : DoesSilently p q (frame_id (shape_of_pass p) leaf.block ∷ [])
  pub as_taken : AreAsTaken silently.added.references
  pub lacked : LacksFrame p leaf.block
  pub frame : Frame
  pub knows : KnowsFrame (view q) leaf.block frame
  pub held_as_taken : HoldsAsTaken (view q) leaf.block
  pub is : IsLeafFor (shape_of_pass p) frame i mode tuple leaf.spot
  pub path : AddsPath p (cut_in (shape_of_pass p) i mode tuple) i 0 is.page.is.page.head.number
      silently.added
  pub count : count q ≡ count p + 1

-- the pass holds an inner page that has the tuple's position
pub record HoldsInner (v : View) (b i : ℕ) (mode : Mode) (tuple : FieldList) : Type 0 where
  pub level : ℕ
  pub frame : Frame
  pub knows : KnowsFrame v b frame
  pub page : IsPageFor v.terms.shape frame i (suc level) (cut_in v.terms.shape i mode tuple)

-- the child that has the position is held besides, in the frame of the block c, a level lower; that
-- frame is as it was taken if it had the page then, and no frame was given back
pub record TakesChild (p : TreePass) (b i : ℕ) (mode : Mode) (tuple : FieldList) (c : ℕ)
    (q : TreePass) : Type 0 where
  pub silently : DoesSilently p q (frame_id (shape_of_pass p) c ∷ [])
  pub none : frame_references silently.added.references ≡ []
  pub lacked : LacksFrame p c
  pub parent : HoldsInner (view p) b i mode tuple
  pub frame : Frame
  pub knows : KnowsFrame (view q) c frame
  pub held_as_taken : HoldsAsTaken (view q) c
  pub page : IsPageFor (shape_of_pass p) frame i parent.level
      (cut_in (shape_of_pass p) i mode tuple)
  pub picks : PicksChild (cut_in (shape_of_pass p) i mode tuple) parent.page.is.page.rows
      page.is.page.head.number
  pub points : PointsAt parent.page.is.page.rows page.is.page.head.number
  pub count : count q ≡ count p + 1
