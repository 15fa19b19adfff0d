-- Rows that moved from one frame to another, and the partition of both.
use Rattle.std.specs.Prelude.{ℕ, ◌≡◌, ◌≢◌, ◌<◌, ◌+◌, ◌⊎◌, Option, Some, None, length}
use Rattle.index_page.specs.Page.{PageRows}
use Rattle.chain_arena.specs.declared.node.Node.{Node}
use Rattle.chain_arena.specs.Bag.{count_of}
use Rattle.hash_partition.specs.Part.{Part, KeepsShape}
use Rattle.hash_law.specs.Blocks.{folds_of, part_for, IsExact}
use Rattle.hash_upkeep.specs.declared.hashing.Hashing.{Hashing}
use Rattle.hash_upkeep.specs.declared.moves.Move.{Move}
use Rattle.hash_upkeep.specs.declared.upkeep.Upkeep.{Upkeep}
use Rattle.hash_upkeep.specs.declared.upkeep.Upkeep.TheVariants.{Kept, Dropped}
use Rattle.hash_upkeep.specs.Hashing.{entries_if}
use Rattle.hash_upkeep.specs.Moves.{CanMove, AreBothCovered, IsMoveAnswer, from_then, to_then, built_or}
use Rattle.forest_law.specs.declared.objects.Frame.{Frame}
use Rattle.latch_space.specs.Has.{SameBut}
use Rattle.latch_space.specs.Passes.{view}
use Rattle.forest_law.specs.Hashed.{hash_block, IsExactFor}
use Rattle.forest_law.specs.Numbers.{part_id}
use Rattle.forest_world.specs.Held.{TreePass, shape_of_pass, HasPart}
use Rattle.hash_maintain.specs.Leaves.{IsHashedSo, hashed_with, unhashed}
use Rattle.hash_maintain.specs.Parting.{IsFoundOrTaken}
use Rattle.hash_maintain.specs.Upkeep.{IsExactIn}

-- both frames have pages that can be hashed as the blocks were, and each node that the partition has of
-- the blocks has the fold of a row there
pub record MayMove (m : Move) (from to : Frame) (old : Part) : Type 0 where
  pub from_page : PageRows
  pub from_is : from.page ≡ Some from_page
  pub to_page : PageRows
  pub to_is : to.page ≡ Some to_page
  pub can : (a b : PageRows) → from.page ≡ Some a → to.page ≡ Some b → CanMove m a b
  pub covered : (a b : PageRows) → from.page ≡ Some a → to.page ≡ Some b
      → AreBothCovered m a b old.nodes

-- how a block is hashed once its partition kept up, or dropped it
abbrev pub how_then : Upkeep → Option Hashing → Option Hashing
how_then Kept how = how
how_then (Dropped need spare) how = None

-- the frame, hashed so
abbrev pub frame_hashed : Option Hashing → Frame → Frame
frame_hashed None f = unhashed f
frame_hashed (Some how) f = hashed_with (Some how.index) (Some how.params) f

-- however many partitions there are, the one of the index is exact of this block with f
abbrev pub IsExactOf : (index bits block : ℕ) → Part → Frame → Type 0
IsExactOf index bits block part f = (parts : ℕ)
    → IsExact (folds_of bits) parts (part_for parts index) block part (hash_block f)

-- the frame is hashed so, or not at all
abbrev pub IsHashedIf : Option Hashing → Frame → Type 0
IsHashedIf None f = f.hashed ≡ None
IsHashedIf (Some how) f = IsHashedSo how f

-- how the block with this page that gave rows is to be hashed
abbrev pub gave_how : Move → Option PageRows → Option Hashing
gave_how m None = None
gave_how m (Some page) = from_then m page.head.level

-- how many entries a page has, if there is one, hashed so, if it is
abbrev pub entries_of_page : Option Hashing → Option PageRows → ℕ
entries_of_page how None = 0
entries_of_page how (Some page) = length (entries_if how page.rows)

-- both frames are hashed as is to be after the move
pub record AreHashedThen (m : Move) (from to : Frame) : Type 0 where
  pub gave : IsHashedIf (gave_how m from.page) from
  pub took : IsHashedIf (to_then m) to

-- neither frame is hashed, since there is no room for the rows of both
pub record LackRoom (m : Move) (from to : Frame) (spare : ℕ) : Type 0 where
  pub gave : from.hashed ≡ None
  pub took : to.hashed ≡ None
  pub lacks : spare < entries_of_page (gave_how m from.page) from.page
      + entries_of_page (to_then m) to.page

-- the partition is exact of both blocks with these frames, which are hashed as is to be, unless there
-- is no room; other blocks' nodes, how many nodes there is room for, and the stamps are as before
pub record KeepsUpBoth (m : Move) (from to : Frame) (old new : Part) : Type 0 where
  pub gave : IsExactOf m.index m.bits m.from new from
  pub took : IsExactOf m.index m.bits m.to new to
  pub others : (n : Node) → n.block ≢ m.from → n.block ≢ m.to
      → count_of n new.nodes ≡ count_of n old.nodes
  pub shape : KeepsShape old new
  pub stay : AreHashedThen m from to ⊎ LackRoom m from to new.spare

-- the index that the first is hashed for, or else the second
abbrev pub first_hashed : Frame → Frame → Option ℕ
first_hashed from to = built_or from.hashed to.hashed

-- the move between two blocks with these frames, in the pass's space
abbrev pub move_in : TreePass → (index from_block to_block : ℕ) → Frame → Frame → Move
move_in p index from_block to_block from to = record {
  index = index;
  bits = (shape_of_pass p).fold_bits;
  from = from_block;
  from_built = from.figures.built;
  to = to_block;
  to_built = to.figures.built;
}

-- rows moved between two blocks, and the partition of the index is as before: exact of the frames that
-- both had, of which it then has no node but with the fold of a row
pub record MovedSinceExact (p : TreePass) (k : ℕ) (m : Move) (from to : Frame) : Type 0 where
  pub apart : m.from ≢ m.to
  pub gave : Frame
  pub took : Frame
  pub gave_exact : IsExactIn p k m.from gave
  pub took_exact : IsExactIn p k m.to took
  pub may : (was : Part) → IsExactFor (shape_of_pass p) k m.from was gave
      → IsExactFor (shape_of_pass p) k m.to was took → MayMove m from to was

-- the partition was in hand or was taken, is in hand, known as before, and is exact of both blocks with
-- these frames; all else is as before. The answer is told by how many nodes were spare
pub record MovesInHand (p : TreePass) (k : ℕ) (m : Move) (old_from old_to from to : Frame)
    (answer : Upkeep) (q : TreePass) : Type 0 where
  pub known : Part
  pub was : Part
  pub now : Part
  pub before : IsFoundOrTaken p k known was q
  pub has : HasPart q k known now
  pub keeps : KeepsUpBoth m from to was now
  pub beside : SameBut p q (part_id (shape_of_pass p) k)
  pub terms : (view q).terms ≡ (view p).terms
  pub told : (a b : PageRows) → old_from.page ≡ Some a → old_to.page ≡ Some b
      → IsMoveAnswer m a b was answer
  pub from_is : (page : PageRows) → old_from.page ≡ Some page
      → from ≡ frame_hashed (how_then answer (from_then m page.head.level)) old_from
  pub to_is : to ≡ frame_hashed (how_then answer (to_then m)) old_to
