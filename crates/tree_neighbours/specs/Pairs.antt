-- The leaf of a search, and the one beside it.
use Rattle.std.specs.Prelude.{ℕ, ◌≡◌, ◌⊎◌, ◌+◌, Option, Some, None, IsSome, List, [], ◌∷◌, length}
use Rattle.key_tuple.specs.Order.{FieldList}
use Rattle.key_tuple.specs.declared.mode.Mode.{Mode}
use Rattle.latch_space.specs.Passes.{view, count}
use Rattle.index_page.specs.declared.spot.Spot.{Spot}
use Rattle.index_page.specs.Page.{PageRows}
use Rattle.index_law.specs.Shape.{Shape}
use Rattle.forest_law.specs.declared.objects.Frame.{Frame}
use Rattle.forest_law.specs.Numbers.{frame_id}
use Rattle.forest_world.specs.Held.{TreePass, shape_of_pass}
use Rattle.call_law.specs.Hands.{KnowsFrame}
use Rattle.buffer_pool.specs.AsTaken.{AreAsTaken, HoldsAsTaken, GaveAsTaken}
use Rattle.buffer_pool.specs.Calls.{DoesSilently}
use Rattle.buffer_pool.specs.Hands.{LacksFrame}
use Rattle.tree_descent.specs.Descents.{AddsPath}
use Rattle.tree_descent.specs.Leaves.{cut_in, IsLeafFor}
use Rattle.tree_neighbours.specs.declared.pairs.LeafPair.{LeafPair}
use Rattle.tree_neighbours.specs.declared.side.Side.{Side}
use Rattle.tree_neighbours.specs.Neighbours.{IsLeafBeside}
use Rattle.tree_neighbours.specs.Sides.{side_of, row_on, page_on}

-- the frame of a block, if a block is given
abbrev pub frames_at : Shape → Option ℕ → List ℕ
frames_at shape None = []
frames_at shape (Some m) = frame_id shape m ∷ []

-- the block m has the leaf beside the one of the frame f, to which that one's page leads on this
-- side and which was lacked; it is held, as it was taken if the frame had it then
pub record HoldsBeside (p q : TreePass) (b i : ℕ) (side : Side) (f : Frame) (page : PageRows)
    (m : ℕ) : Type 0 where
  pub lacked : LacksFrame p m
  pub frame : Frame
  pub knows : KnowsFrame (view q) m frame
  pub held_as_taken : HoldsAsTaken (view q) m
  pub beside : IsLeafBeside (shape_of_pass p) side b i f m frame
  pub leads : page_on side page ≡ Some beside.is.page.head.number

-- the leaf beside the one of the frame f is held where that one has no row at the spot on this
-- side; none is where it has one, or is the last leaf on this side
abbrev pub HoldsOther : (p q : TreePass) → (b i : ℕ) → Side → Frame → PageRows → Spot → Option ℕ
    → Type 0
HoldsOther p q b i side f page spot None = IsSome (row_on side spot) ⊎ (page_on side page ≡ None)
HoldsOther p q b i side f page spot (Some m) =
    (row_on side spot ≡ None) × HoldsBeside p q b i side f page m

-- the leaf with the tuple's position is held, and the one beside it where the row of the mode may
-- be there; each frame that kept its page was given back, or is held, as it was taken
pub record DescendsPair (p : TreePass) (i : ℕ) (mode : Mode) (tuple : FieldList) (pair : LeafPair)
    (q : TreePass) : Type 0 where
  pub silently : DoesSilently p q
      (frame_id (shape_of_pass p) pair.leaf.block ∷ frames_at (shape_of_pass p) pair.other)
  pub as_taken : AreAsTaken silently.added.references
  pub lacked : LacksFrame p pair.leaf.block
  pub frame : Frame
  pub knows : KnowsFrame (view q) pair.leaf.block frame
  pub held_as_taken : HoldsAsTaken (view q) pair.leaf.block
  pub is : IsLeafFor (shape_of_pass p) frame i mode tuple pair.leaf.spot
  pub path : AddsPath p (cut_in (shape_of_pass p) i mode tuple) i 0 is.page.is.page.head.number
      silently.added
  pub other : HoldsOther p q pair.leaf.block i (side_of mode) frame is.page.is.page pair.leaf.spot
      pair.other
  pub count : count q ≡ count p + 1 + length (frames_at (shape_of_pass p) pair.other)

-- both were taken where they are asked for, or it was in vain
abbrev pub TriesPair : TreePass → ℕ → Mode → FieldList → Option LeafPair → TreePass → Type 0
TriesPair p i mode tuple (Some pair) q = DescendsPair p i mode tuple pair q
TriesPair p i mode tuple None q = GaveAsTaken p q
