-- What was kept up in hand keeps the hash exact.
use Rattle.std.specs.Prelude.{ℕ, ◌<◌, [], ◌∷◌}
use Rattle.latch_space.specs.Passes.{values, known_values}
use Rattle.chain_arena.specs.Bag.{SameOutsideBlock}
use Rattle.hash_partition.specs.Part.{Part, KeepsShape}
use Rattle.hash_law.specs.Blocks.{IsTidy}
use Rattle.hash_upkeep.specs.declared.upkeep.Upkeep.{Upkeep}
use Rattle.forest_law.specs.declared.objects.Frame.{Frame}
use Rattle.forest_law.specs.Numbers.{frames_of}
use Rattle.forest_law.specs.Hashed.{hash_block, IsExactFor}
use Rattle.forest_law.specs.HashStays.{StaysHashed}
use Rattle.forest_world.specs.Held.{TreePass, shape_of_pass, HasFrame, HasPart, IsKnownBeyond}
use Rattle.forest_world.specs.HashHands.{IsHashedIn, HandKeepsHash, hash_ids}
use Rattle.hash_maintain.specs.Leaves.{kept_frame}

-- partition k and the block's frame are in hand, the partition exact of the block now and of other
-- blocks with the nodes that it is known to have, and all else in hand is what it is known to be. A leaf
-- that was hashed stays so, unless there is a cause
pub record HasKeptUp (p : TreePass) (k b : ℕ) : Type 0 where
  pub known : Part
  pub now : Part
  pub old : Frame
  pub new : Frame
  pub part : HasPart p k known now
  pub frame : HasFrame p b old new
  pub below : b < frames_of (shape_of_pass p)
  pub was_in : IsHashedIn (shape_of_pass p) k old
  pub is_in : IsHashedIn (shape_of_pass p) k new
  pub tidy : IsTidy (hash_block old) → IsTidy (hash_block new)
  pub exact : IsExactFor (shape_of_pass p) k b now new
  pub others : SameOutsideBlock now.nodes known.nodes b
  pub shape : KeepsShape known now
  pub stays : StaysHashed (shape_of_pass p) (known_values p) (values p) b old new
  pub beyond : IsKnownBeyond p (hash_ids (shape_of_pass p) (k ∷ []) (b ∷ []))

-- then the hash is kept, as the law asks of a step; and upkeep leaves a tidy frame tidy
pub record UpkeepKeepsTheHash : Type 0 where
  pub keeps : (p : TreePass) (k b : ℕ) → HasKeptUp p k b → HandKeepsHash p
  pub tidy : (answer : Upkeep) (f : Frame) → IsTidy (hash_block f)
      → IsTidy (hash_block (kept_frame answer f))
