-- What a call holds: the leaf that has the position of its key.
use Rattle.std.specs.Prelude.{ℕ, ◌≡◌, ◌<◌, true}
use Rattle.key_tuple.specs.Order.{FieldList}
use Rattle.key_tuple.specs.KeyPlace.{At, within}
use Rattle.key_tuple.specs.declared.mode.Mode.TheVariants as mode
use Rattle.latch_space.specs.Has.{IsKnown}
use Rattle.latch_space.specs.Passes.{view, count}
use Rattle.index_page.specs.declared.spot.Spot.{Spot}
use Rattle.hash_partition.specs.Part.{Part}
use Rattle.index_law.specs.Shape.{Shape}
use Rattle.forest_law.specs.declared.objects.Frame.{Frame}
use Rattle.forest_law.specs.Outside.{HasNoOutside}
use Rattle.forest_world.specs.Held.{TreePass, shape_of_pass, HasFrame}
use Rattle.call_law.specs.Hands.{KnowsFrame, KnowsPart, HoldsNoPart}
use Rattle.call_law.specs.Spoken.{View}
use Rattle.buffer_pool.specs.Pages.{HasNumber}
use Rattle.page_view.specs.Finding.{HasRow, HasSpot}
use Rattle.tree_facts.specs.TreeFrames.{low_of, high_of}
use Rattle.tree_descent.specs.Leaves.{cut_in, IsPageFor}

-- the frame has the leaf of the index that has the key's position, and the key is in its bounds
pub record IsLeafOf (shape : Shape) (i : ℕ) (key : FieldList) (f : Frame) : Type 0 where
  pub page : IsPageFor shape f i 0 (cut_in shape i mode.Ge key)
  pub inside : within (low_of f) (high_of f) (At key) ≡ true

-- the pass holds that leaf, which is known to be f and now is g
pub record HoldsLeaf (p : TreePass) (b i : ℕ) (key : FieldList) (f g : Frame) : Type 0 where
  pub has : HasFrame p b f g
  pub leaf : IsLeafOf (shape_of_pass p) i key f

-- it holds the leaf, and what else it holds, as it is known to be, and the key belongs at the spot
pub record HoldsFresh (p : TreePass) (b i : ℕ) (key : FieldList) (spot : Spot) : Type 0 where
  pub frame : Frame
  pub holds : HoldsLeaf p b i key frame frame
  pub finds : HasSpot holds.leaf.page.is.page key spot
  pub known : IsKnown p

-- the same, and it holds nothing else
pub record HoldsFreshAlone (p : TreePass) (b i : ℕ) (key : FieldList) (spot : Spot) : Type 0 where
  pub fresh : HoldsFresh p b i key spot
  pub one : count p ≡ 1
  pub parts : HoldsNoPart (view p)

-- it holds the leaf alone, and the key's row stands there at the place
pub record HoldsKeyRow (p : TreePass) (b i place : ℕ) (key : FieldList) : Type 0 where
  pub spot : Spot
  pub alone : HoldsFreshAlone p b i key spot
  pub row : HasRow alone.fresh.holds.leaf.page.is.page place key

-- the frame has a page of the number that the page in the block's frame was known to have
abbrev pub KeepsNumber : View → ℕ → Frame → Type 0
KeepsNumber v b g = (f : Frame) (n : ℕ) → KnowsFrame v b f → HasNumber f n → HasNumber g n

-- each partition that was held is held
abbrev pub KeepsParts : View → View → Type 0
KeepsParts v w = (k : ℕ) (x : Part) → k < v.terms.shape.parts → KnowsPart v k x
    → (y : Part) × KnowsPart w k y

-- the pass holds the partitions that it held, as many objects, and all is what it is known to be
pub record StaysKnown (p q : TreePass) : Type 0 where
  pub known : IsKnown q
  pub parts : KeepsParts (view p) (view q)
  pub count : count q ≡ count p

-- it holds the block's frame, which is what it is known to be, and whose page is none outside the
-- trees
pub record HoldsStill (p : TreePass) (b : ℕ) : Type 0 where
  pub frame : Frame
  pub has : HasFrame p b frame frame
  pub inside : HasNoOutside frame

-- it holds the block's frame alone, which is what it is known to be, and whose page is none outside
-- the trees
pub record HoldsKnown (p : TreePass) (b : ℕ) : Type 0 where
  pub frame : Frame
  pub has : HasFrame p b frame frame
  pub inside : HasNoOutside frame
  pub one : count p ≡ 1
