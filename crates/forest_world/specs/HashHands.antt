-- What a pass has in hand keeps the hash exact.
use Rattle.std.specs.Prelude.{ℕ, ◌≡◌, ◌≢◌, ◌+◌, ◌<◌, Some, List, [], ◌∷◌, ◌++◌, map, length}
use Rattle.std.specs.List.{AllByRecursion}
use Rattle.latch_space.specs.Passes.{values, known_values}
use Rattle.chain_arena.specs.declared.node.Node.{Node}
use Rattle.chain_arena.specs.Bag.{count_of}
use Rattle.hash_partition.specs.Part.{Part}
use Rattle.hash_law.specs.Blocks.{part_for, IsTidy}
use Rattle.index_law.specs.Shape.{Shape}
use Rattle.forest_law.specs.declared.objects.Frame.{Frame}
use Rattle.forest_law.specs.Numbers.{part_id, frame_id, frames_of}
use Rattle.forest_law.specs.Hashed.{hash_block, IsExactFor}
use Rattle.forest_law.specs.HashKept.{KeepsHash}
use Rattle.forest_law.specs.HashStays.{IsHashedAlike, StaysHashed}
use Rattle.forest_law.specs.HashSteps.{AsksSame}
use Rattle.forest_world.specs.Held.{TreePass, shape_of_pass, HasFrame, HasPart, HoldsFrame, HoldsPart, IsKnownBeyond}

-- a block's frame stays tidy, asks each partition for the same nodes after as before, and is hashed as
-- it was, if it was
pub record FrameRestsHash (shape : Shape) (b : ℕ) (x y : Frame) : Type 0 where
  pub tidy : IsTidy (hash_block x) → IsTidy (hash_block y)
  pub asks : (k : ℕ) → AsksSame shape k b x y
  pub alike : IsHashedAlike x y

-- beyond these partitions and blocks, each partition in hand is what it is known to be, and each frame
-- in hand rests
pub record HashRestsBeyond (p : TreePass) (ks blocks : List ℕ) : Type 0 where
  pub parts : (j : ℕ) (r s : Part) → AllByRecursion (λ (k : ℕ). j ≢ k) ks → HasPart p j r s → s ≡ r
  pub frames : (c : ℕ) (x y : Frame) → AllByRecursion (λ (b : ℕ). c ≢ b) blocks
      → HasFrame p c x y → FrameRestsHash (shape_of_pass p) c x y

-- the frame isn't hashed for an index of a partition other than k
abbrev pub IsHashedIn : Shape → ℕ → Frame → Type 0
IsHashedIn shape k f = (index : ℕ) → f.hashed ≡ Some index → part_for shape.parts index ≡ k

-- partition k keeps up with the block, whose frame is in hand: the frame is hashed in no other
-- partition, stays tidy, and where the partition was exact of the block, it is; a leaf that was hashed
-- stays so, unless there is a cause
pub record KeepsUpBlock (p : TreePass) (k : ℕ) (was now : Part) (b : ℕ) : Type 0 where
  pub below : b < frames_of (shape_of_pass p)
  pub old : Frame
  pub new : Frame
  pub frame : HasFrame p b old new
  pub was_in : IsHashedIn (shape_of_pass p) k old
  pub is_in : IsHashedIn (shape_of_pass p) k new
  pub tidy : IsTidy (hash_block old) → IsTidy (hash_block new)
  pub exact : IsExactFor (shape_of_pass p) k b was old → IsExactFor (shape_of_pass p) k b now new
  pub stays : StaysHashed (shape_of_pass p) (known_values p) (values p) b old new

-- partition k is in hand and keeps up with these blocks; of all others it has the nodes that it had,
-- it has as much room, and the hash rests beyond
pub record HandsKeepUp (p : TreePass) (k : ℕ) (blocks : List ℕ) : Type 0 where
  pub was : Part
  pub now : Part
  pub has : HasPart p k was now
  pub room : length now.nodes + now.spare ≡ length was.nodes + was.spare
  pub each : AllByRecursion (KeepsUpBlock p k was now) blocks
  pub others : (n : Node) → AllByRecursion (λ (b : ℕ). n.block ≢ b) blocks
      → count_of n now.nodes ≡ count_of n was.nodes
  pub beyond : HashRestsBeyond p (k ∷ []) blocks

-- what is in hand keeps the hash, as the law asks of a step
abbrev pub HandKeepsHash : TreePass → Type 0
HandKeepsHash p = KeepsHash (shape_of_pass p) (known_values p) (values p)

-- the numbers of these partitions and frames
abbrev pub hash_ids : Shape → (ks blocks : List ℕ) → List ℕ
hash_ids shape ks blocks = map (part_id shape) ks ++ map (frame_id shape) blocks

-- these partitions and the frames of these blocks are in hand
pub record AreInHand (p : TreePass) (ks blocks : List ℕ) : Type 0 where
  pub parts : AllByRecursion (HoldsPart p) ks
  pub frames : AllByRecursion (HoldsFrame p) blocks

-- where the hash rests in hand, or a partition in hand keeps up with some blocks, the hash is kept. The
-- hash rests beyond what alone isn't known to be as it is, and beyond fewer blocks where one more
-- asks for what it asked for
pub record HandsKeepTheHash : Type 0 where
  pub rests : (p : TreePass) → HashRestsBeyond p [] [] → HandKeepsHash p
  pub keep_up : (p : TreePass) (k : ℕ) (blocks : List ℕ) → HandsKeepUp p k blocks → HandKeepsHash p
  pub known : (p : TreePass) (ks blocks : List ℕ) → AreInHand p ks blocks
      → IsKnownBeyond p (hash_ids (shape_of_pass p) ks blocks) → HashRestsBeyond p ks blocks
  pub one_more : (p : TreePass) (ks blocks : List ℕ) (b : ℕ) (x y : Frame) → HasFrame p b x y
      → FrameRestsHash (shape_of_pass p) b x y → HashRestsBeyond p ks (b ∷ blocks)
      → HashRestsBeyond p ks blocks
