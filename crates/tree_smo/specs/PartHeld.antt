-- The partition of a page that is to give rows, held while it does.
use Rattle.std.specs.Prelude.{ℕ, ◌≡◌, ◌<◌, Option, Some, None, List}
use Rattle.chain_arena.specs.declared.node.Node.{Node}
use Rattle.hash_partition.specs.Part.{Part}
use Rattle.hash_upkeep.specs.declared.moves.Move.{Move}
use Rattle.hash_upkeep.specs.Laws.{MovesAreCovered}
use Rattle.forest_law.specs.declared.objects.Frame.{Frame}
use Rattle.forest_law.specs.Hashed.{IsExactFor}
use Rattle.forest_law.specs.HashLaws.{BlocksAskTheSame}
use Rattle.forest_world.specs.HashHands.{HandsKeepTheHash}
use Rattle.hash_maintain.specs.MoveLaws.{MovesKeepTheHash}
use Rattle.call_law.specs.Hands.{KnowsFrame, KnowsPart}
use Rattle.call_law.specs.Spoken.{View}
use Rattle.buffer_pool.specs.Parts.{part_of_index}

-- the partition, if there is one, is held, and is exact of each block that is held, as its frame is
-- known
abbrev pub HoldsExactIf : View → Option ℕ → Type 0
HoldsExactIf v None = Unit {0}
HoldsExactIf v (Some k) = (k < v.terms.shape.parts) × (part : Part) × KnowsPart v k part
    × ((c : ℕ) (f : Frame) → KnowsFrame v c f → IsExactFor v.terms.shape k c part f)

-- so it is with the partition of the index that the block's frame is hashed for, if it is
pub record HoldsPartFor (v : View) (b : ℕ) (part : Option ℕ) : Type 0 where
  pub named : (f : Frame) → KnowsFrame v b f → part ≡ part_of_index v.terms.shape f.hashed
  pub held : HoldsExactIf v part

-- what is known of a hash while rows move
pub record LawsOfMoves : Type 0 where
  pub ask : BlocksAskTheSame
  pub hands : HandsKeepTheHash
  pub covered : (m : Move) (nodes : List Node) → MovesAreCovered m nodes
  pub moves : MovesKeepTheHash
