-- What a call on a hashed block leaves of its partition in hand.
use Rattle.std.specs.Prelude.{ℕ, ◌≡◌, ◌<◌, Option, Some, List, length}
use Rattle.key_tuple.specs.declared.mode.Params.{Params}
use Rattle.index_page.specs.Page.{PageRows}
use Rattle.chain_arena.specs.declared.node.Node.{Node}
use Rattle.hash_upkeep.specs.declared.hashing.Hashing.{Hashing}
use Rattle.hash_upkeep.specs.declared.built.Build.{Build}
use Rattle.hash_upkeep.specs.Build.{BuildsAnew, LacksIfFull}
use Rattle.hash_upkeep.specs.Hashing.{row_entries}
use Rattle.hash_upkeep.specs.declared.upkeep.Upkeep.{Upkeep}
use Rattle.hash_upkeep.specs.Upkeep.{IsRowAnswer, LacksIfDropped}
use Rattle.hash_maintain.specs.Leaves.{hashing_of}
use Rattle.latch_space.specs.Has.{SameBut}
use Rattle.latch_space.specs.Passes.{view}
use Rattle.chain_arena.specs.Bag.{SameOutsideBlock}
use Rattle.hash_partition.specs.Part.{Part, KeepsShape}
use Rattle.hash_law.specs.Blocks.{part_for, HasLeafOf}
use Rattle.forest_law.specs.declared.objects.Frame.{Frame}
use Rattle.forest_law.specs.Numbers.{part_id}
use Rattle.forest_law.specs.Hashed.{hash_block, IsExactFor}
use Rattle.forest_law.specs.HashSteps.{AsksSame}
use Rattle.forest_world.specs.Held.{TreePass, shape_of_pass, HasPart}
use Rattle.hash_maintain.specs.Parting.{LacksPart, HasRoomFor, KnowsFrameIn, IsFoundOrTaken, IsInPlace}

-- the pass holds the block's frame, known as one that asks partition k for what f asks for
pub record KnowsAlike (p : TreePass) (k b : ℕ) (f : Frame) : Type 0 where
  pub frame : Frame
  pub known : KnowsFrameIn p b frame
  pub asks : AsksSame (shape_of_pass p) k b frame f

-- where partition k is held, it is exact for the block with f; where it is free, f asks for what the
-- known frame asks for
pub record IsExactIn (p : TreePass) (k b : ℕ) (f : Frame) : Type 0 where
  pub held : (x y : Part) → HasPart p k x y → IsExactFor (shape_of_pass p) k b y f
  pub free : LacksPart p k → KnowsAlike p k b f

-- the same of the partition of the index that the frame is hashed for
abbrev pub IsExactWhereHashed : TreePass → ℕ → Frame → Type 0
IsExactWhereHashed p b f = (index : ℕ) → f.hashed ≡ Some index
    → IsExactIn p (part_for (shape_of_pass p).parts index) b f

-- where the frame is hashed for an index whose partition the pass lacks, it may hold one object more
abbrev pub HasRoomWhereHashed : TreePass → Frame → Type 0
HasRoomWhereHashed p f = (index : ℕ) → f.hashed ≡ Some index
    → HasRoomFor p (part_for (shape_of_pass p).parts index)

-- no partition that is held is taken out
abbrev pub AreInPlace : TreePass → Type 0
AreInPlace p = (k : ℕ) → k < (shape_of_pass p).parts → IsInPlace p k

-- partition k was in hand or was taken, is in hand, known as before, and is exact for the block with f
-- now; other blocks' nodes, how many nodes there is room for, and the stamps are as before
pub record KeepsUpInHand (p : TreePass) (k b : ℕ) (f : Frame) (q : TreePass) : Type 0 where
  pub known : Part
  pub was : Part
  pub now : Part
  pub before : IsFoundOrTaken p k known was q
  pub has : HasPart q k known now
  pub exact : IsExactFor (shape_of_pass p) k b now f
  pub others : SameOutsideBlock now.nodes was.nodes b
  pub shape : KeepsShape was now
  pub beside : SameBut p q (part_id (shape_of_pass p) k)
  pub terms : (view q).terms ≡ (view p).terms

-- of a block that was hashed so, its frame f and then g, partition k of its index keeps up with what
-- the frame is seen as then; the answer is told by how many nodes were spare, and where the block was
-- dropped there is no room for the rows of f
pub record KeepsUpWithRow (p : TreePass) (b place : ℕ) (how : Hashing) (f g : Frame)
    (answer_of : (spare : ℕ) → (brought driven : List Node) → Upkeep) (answer : Upkeep)
    (q : TreePass) : Type 0 where
  pub keeps : KeepsUpInHand p (part_for (shape_of_pass p).parts how.index) b g q
  pub told : (page : PageRows) → f.page ≡ Some page
      → IsRowAnswer how page.rows place (answer_of keeps.was.spare) answer
  pub room : (page : PageRows) → f.page ≡ Some page
      → LacksIfDropped answer keeps.now.spare (length (row_entries how page.rows))

-- how the block with this frame is hashed in the pass's space, if it is
abbrev pub hashing_in : TreePass → ℕ → Frame → Option Hashing
hashing_in p b f = hashing_of b (shape_of_pass p).fold_bits f

-- how the block is hashed in the pass's space, for this index with these parameters
abbrev pub hashing_as : TreePass → (b index : ℕ) → Params → Hashing
hashing_as p b index params = record {
  index = index;
  block = b;
  params = params;
  bits = (shape_of_pass p).fold_bits;
}

-- the leaf of the block's frame has so many entries, if it is hashed with these parameters
abbrev pub CountsLeaf : TreePass → (b : ℕ) → Params → Frame → (need : ℕ) → Type 0
CountsLeaf p b params f need = (page : PageRows) → f.page ≡ Some page
    → need ≡ length (row_entries (hashing_as p b page.head.index params) page.rows)

-- of a block with a leaf of the index, its frame f and then g, the index's partition keeps up with a
-- build, which tells by how many nodes were spare; where the arena was full there is no room
pub record BuildsInHand (p : TreePass) (b index : ℕ) (params : Params) (f g : Frame)
    (answer : Build) (q : TreePass) : Type 0 where
  pub keeps : KeepsUpInHand p (part_for (shape_of_pass p).parts index) b g q
  pub told : (page : PageRows) → f.page ≡ Some page
      → BuildsAnew (hashing_as p b index params) page.rows keeps.was keeps.now answer
  pub room : (page : PageRows) → f.page ≡ Some page
      → LacksIfFull answer keeps.now.spare
      (length (row_entries (hashing_as p b index params) page.rows))

-- the frame has a leaf of an index, and where the partition of that is held or free, it is exact so
pub record IsLeafExactIn (p : TreePass) (b : ℕ) (f : Frame) : Type 0 where
  pub index : ℕ
  pub leaf : HasLeafOf (hash_block f) index
  pub exact : IsExactIn p (part_for (shape_of_pass p).parts index) b f
