-- What a seek holds: leaves of its index, and nothing else.
use Rattle.std.specs.Prelude.{ℕ, ◌≡◌, ◌⊎◌, Bool, Option, Some, None, IsSome, List, [], ◌∷◌, length}
use Rattle.key_tuple.specs.Order.{FieldList}
use Rattle.key_tuple.specs.declared.mode.Mode.{Mode}
use Rattle.latch_space.specs.Has.{IsKnown}
use Rattle.latch_space.specs.Passes.{view, count}
use Rattle.forest_law.specs.declared.objects.Frame.{Frame}
use Rattle.forest_world.specs.Held.{TreePass, shape_of_pass}
use Rattle.call_law.specs.Hands.{KnowsFrame, HoldsNoFrameBut, HoldsNoTable}
use Rattle.call_law.specs.Spoken.{View}
use Rattle.hash_guess.specs.Hits.{HoldsHit}
use Rattle.tree_descent.specs.declared.descending.Leaf.{Leaf}
use Rattle.tree_descent.specs.Leaves.{IsLeafFor}
use Rattle.tree_descent.specs.Ways.{HoldsPage}
use Rattle.tree_neighbours.specs.declared.pairs.LeafPair.{LeafPair}
use Rattle.tree_neighbours.specs.Neighbours.{IsLeafBeside}
use Rattle.tree_neighbours.specs.Sides.{side_of, row_on, page_on}
use Rattle.index_seeks.specs.declared.seek_call.Walk.{Walk}
use Rattle.tree_neighbours.specs.LeafHands.{HoldsLeavesAlone}
use Rattle.index_seeks.specs.Seeks.{near_of, far_of, PassesNothing, SawNothing}

-- the block, if one is given
abbrev pub blocks_at : Option ℕ → List ℕ
blocks_at None = []
blocks_at (Some m) = m ∷ []

-- the blocks of a leaf and perhaps of the one beside it
abbrev pub blocks_of_pair : LeafPair → List ℕ
blocks_of_pair pair = pair.leaf.block ∷ blocks_at pair.other

-- the pass holds the leaf with the tuple's position, which has a row for the mode, or is the last
-- on its side
pub record HoldsLast (p : TreePass) (i : ℕ) (mode : Mode) (tuple : FieldList)
    (leaf : Leaf) : Type 0 where
  pub only : HoldsLeavesAlone p (leaf.block ∷ [])
  pub frame : Frame
  pub knows : KnowsFrame (view p) leaf.block frame
  pub is : IsLeafFor (shape_of_pass p) frame i mode tuple leaf.spot
  pub last : IsSome (row_on (side_of mode) leaf.spot)
      ⊎ (page_on (side_of mode) is.page.is.page ≡ None)

-- the pass holds the leaf with the tuple's position, which has no row for the mode, and the leaf
-- beside it in the block m
pub record HoldsBothLeaves (p : TreePass) (i : ℕ) (mode : Mode) (tuple : FieldList) (leaf : Leaf)
    (m : ℕ) : Type 0 where
  pub only : HoldsLeavesAlone p (leaf.block ∷ m ∷ [])
  pub frame : Frame
  pub knows : KnowsFrame (view p) leaf.block frame
  pub is : IsLeafFor (shape_of_pass p) frame i mode tuple leaf.spot
  pub none : row_on (side_of mode) leaf.spot ≡ None
  pub next : Frame
  pub knows_next : KnowsFrame (view p) m next
  pub beside : IsLeafBeside (shape_of_pass p) (side_of mode) leaf.block i frame m next

-- it holds the leaf with the tuple's position, and the one beside it, if there is one
abbrev pub HoldsLeafPair : TreePass → ℕ → Mode → FieldList → Leaf → Option ℕ → Type 0
HoldsLeafPair p i mode tuple leaf None = HoldsLast p i mode tuple leaf
HoldsLeafPair p i mode tuple leaf (Some m) = HoldsBothLeaves p i mode tuple leaf m

-- it holds a leaf alone, whose row at the place is shown to be the one that the mode asks for
pub record HoldsHitAlone (p : TreePass) (i : ℕ) (mode : Mode) (tuple : FieldList)
    (block place : ℕ) : Type 0 where
  pub only : HoldsLeavesAlone p (block ∷ [])
  pub found : Bool
  pub hit : HoldsHit (view p) i mode tuple block place found

-- the pass holds a leaf of the index, and nothing that is sought comes before it
pub record StandsOn (p : TreePass) (b i : ℕ) (mode : Mode) (tuple : FieldList)
    (bound : Option ℕ) : Type 0 where
  pub known : IsKnown p
  pub holds : HoldsPage (view p) b i 0
  pub none : PassesNothing (view p) i mode tuple bound (near_of (side_of mode) holds.frame)

-- so many changes of the list were seen, by which nothing that is sought comes before the end of
-- the block's leaf
pub record SawPast (v : View) (b i count : ℕ) (mode : Mode) (tuple : FieldList) : Type 0 where
  pub frame : Frame
  pub knows : KnowsFrame v b frame
  pub saw : SawNothing v i count mode tuple (far_of (side_of mode) frame)

-- the pass holds a leaf of the index alone, and has seen that nothing that is sought comes before
-- its end
pub record WalksAt (p : TreePass) (i : ℕ) (mode : Mode) (tuple : FieldList)
    (walk : Walk) : Type 0 where
  pub only : HoldsLeavesAlone p (walk.block ∷ [])
  pub holds : HoldsPage (view p) walk.block i 0
  pub past : SawPast (view p) walk.block i walk.point mode tuple
