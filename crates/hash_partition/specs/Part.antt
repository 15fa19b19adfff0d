-- What contracts see of a partition.
use Rattle.std.specs.Prelude.{◌≡◌, ℕ, ◌+◌, Option, None, List, [], length, replicate, slice_index_or, slice_set}
use Rattle.chain_arena.specs.declared.node.Node.{Node}

-- its nodes, as a bag, how many more it takes, and the stamp of each block, if it has one
pub record Part : Type 0 where
  pub nodes : List Node
  pub spare : ℕ
  pub stamps : List (Option ℕ)

-- a partition without nodes and stamps
abbrev pub empty_part : (spare blocks : ℕ) → Part
empty_part spare blocks = record { nodes = []; spare = spare; stamps = replicate blocks None }

-- the stamp of a block
abbrev pub stamp_of : Part → ℕ → Option ℕ
stamp_of part block = slice_index_or part.stamps block None

-- the partition with this stamp of a block
abbrev pub stamped : Part → ℕ → Option ℕ → Part
stamped part block stamp = record part { stamps = slice_set part.stamps block stamp }

-- nodes and spare ones are together as many as before, and the stamps are those of before
pub record KeepsShape (old new : Part) : Type 0 where
  pub room : length new.nodes + new.spare ≡ length old.nodes + old.spare
  pub stamps : new.stamps ≡ old.stamps
