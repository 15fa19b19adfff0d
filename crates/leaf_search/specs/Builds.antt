-- The parts of a lesson: what may be written to a leaf's frame, and the build in hand.
use Rattle.std.specs.Prelude.{ℕ, ◌≡◌, ◌≢◌, Some, List, length}
use lib.ListN.{get_elem?}
use Rattle.latch_law.specs.declared.knows.Reference.{Reference}
use Rattle.latch_space.specs.Passes.{view, count, values}
use Rattle.map_history.specs.declared.columns.Note.{Note}
use Rattle.key_tuple.specs.declared.mode.Params.{Params}
use Rattle.learning.specs.declared.event.BlockFigures.{BlockFigures}
use Rattle.index_page.specs.Page.{PageRows}
use Rattle.chain_arena.specs.Bag.{SameOutsideBlock}
use Rattle.hash_partition.specs.Part.{Part, KeepsShape}
use Rattle.hash_law.specs.Blocks.{AskFew, part_for}
use Rattle.hash_upkeep.specs.declared.built.Build.{Build}
use Rattle.hash_upkeep.specs.Build.{BuildsAnew, LacksIfFull}
use Rattle.hash_upkeep.specs.Hashing.{row_entries}
use Rattle.forest_law.specs.declared.objects.Frame.{Frame}
use Rattle.forest_law.specs.declared.objects.Object.{Object}
use Rattle.forest_law.specs.Hashed.{IsExactFor}
use Rattle.forest_law.specs.Numbers.{part_id, frame_id}
use Rattle.forest_world.specs.Held.{TreePass, shape_of_pass, HasFrame, HasPart}
use Rattle.call_law.specs.Hands.{KnowsFrame, KnowsPart}
use Rattle.call_law.specs.Spoken.{View}
use Rattle.hash_maintain.specs.Leaves.{frame_built}
use Rattle.hash_maintain.specs.Upkeep.{CountsLeaf, hashing_as}
use Rattle.tree_descent.specs.Ways.{HoldsPage}
use Rattle.leaf_search.specs.Lessons.{with_figures, FrameBecomes, BuildsOnPart, HashesLeaf}

-- the figures tell how the frame's leaf is hashed, and advise no more fields than it has
pub record SuitsLeaf (f : Frame) (figures : BlockFigures) : Type 0 where
  pub built : figures.built ≡ f.figures.built
  pub advice : AskFew f.page figures.advice

-- the pass holds a leaf of the index that these figures suit
pub record HoldsToTeach (v : View) (b i : ℕ) (figures : BlockFigures) : Type 0 where
  pub leaf : HoldsPage v b i 0
  pub suits : SuitsLeaf leaf.frame figures

-- it holds the partition of the index besides, which is exact of the leaf, and the leaf isn't
-- hashed as the figures advise
pub record HoldsToBuild (p : TreePass) (b i : ℕ) (figures : BlockFigures) : Type 0 where
  pub teach : HoldsToTeach (view p) b i figures
  pub differs : figures.built ≢ Some figures.advice
  pub part : Part
  pub knows : KnowsPart (view p) (part_for (shape_of_pass p).parts i) part
  pub exact : IsExactFor (shape_of_pass p) (part_for (shape_of_pass p).parts i) b part
      teach.leaf.frame

-- the leaf that is known in the block's frame has so many entries, if it is hashed so
pub record IsCountedLeaf (p : TreePass) (b : ℕ) (params : Params) (need : ℕ) : Type 0 where
  pub frame : Frame
  pub knows : KnowsFrame (view p) b frame
  pub counts : CountsLeaf p b params frame need

-- the leaf was built on the partition, and both are in hand so
pub record BuiltInHand (p : TreePass) (b i : ℕ) (figures : BlockFigures) (f : Frame)
    (page : PageRows) (was : Part) (answer : Build) (q : TreePass) : Type 0 where
  pub view : view q ≡ view p
  pub count : count q ≡ count p
  pub frame : HasFrame q b f
      (frame_built answer (hashing_as p b i figures.advice) (with_figures f figures))
  pub now : Part
  pub part : HasPart q (part_for (shape_of_pass p).parts i) was now
  pub exact : IsExactFor (shape_of_pass p) (part_for (shape_of_pass p).parts i) b now
      (frame_built answer (hashing_as p b i figures.advice) (with_figures f figures))
  pub others : SameOutsideBlock now.nodes was.nodes b
  pub shape : KeepsShape was now
  pub told : BuildsAnew (hashing_as p b i figures.advice) page.rows was now answer
  pub room : LacksIfFull answer now.spare
      (length (row_entries (hashing_as p b i figures.advice) page.rows))
  pub beside : (j : ℕ) → j ≢ frame_id (shape_of_pass p) b
      → j ≢ part_id (shape_of_pass p) (part_for (shape_of_pass p).parts i)
      → get_elem? (values q) j ≡ get_elem? (values p) j

-- the same is known, and the partition given back
pub record EndsBuild (p : TreePass) (i b : ℕ) (f : Frame) (page : PageRows)
    (figures : BlockFigures) (answer : Build) (q : TreePass) : Type 0 where
  pub given : List (Reference Object)
  pub becomes : FrameBecomes p b f
      (frame_built answer (hashing_as p b i figures.advice) (with_figures f figures)) given q
  pub builds : BuildsOnPart p i b page figures answer given

-- the leaf is hashed with its advice, or there was no room, which is known
pub record EndsHashing (p : TreePass) (i b : ℕ) (f : Frame) (page : PageRows)
    (figures : BlockFigures) (told : Note) (q : TreePass) : Type 0 where
  pub new : Frame
  pub given : List (Reference Object)
  pub becomes : FrameBecomes p b f new given q
  pub hashes : HashesLeaf p i b f page figures told new given
