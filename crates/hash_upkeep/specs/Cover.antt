-- Which nodes a block has in a partition, by their folds, and what a call changes of them.
use Rattle.std.specs.Prelude.{ℕ, ◌≡◌, ◌≢◌, ◌+◌, ◌≤◌, ◌==◌, List, [], ◌∷◌}
use Rattle.chain_arena.specs.declared.node.Node.{Node}
use Rattle.chain_arena.specs.Bag.{HasNode, SameOutsideBlock, count_of}
use Rattle.chain_arena.specs.Count.{bit}
use Rattle.hash_partition.specs.Part.{Part, KeepsShape}
use Rattle.hash_law.specs.Entries.{NodesAt}

-- how many of the nodes have this fold
abbrev pub count_with : ℕ → List Node → ℕ
count_with fold [] = 0
count_with fold (m ∷ ms) = bit (m.fold == fold) + count_with fold ms

-- each node of the block has the fold of one of these
abbrev pub AreCovered : ℕ → List Node → List Node → Type 0
AreCovered block nodes others =
    (n : Node) → HasNode nodes n → n.block ≡ block → 1 ≤ count_with n.fold others

-- no node of the block is left that has the fold of one of these; no node came, and other blocks'
-- nodes, how many nodes there is room for, and the stamps are as before
pub record LosesFolds (block : ℕ) (others : List Node) (old new : Part) : Type 0 where
  pub gone : (n : Node) → n.block ≡ block → 1 ≤ count_with n.fold others
      → count_of n new.nodes ≡ 0
  pub fewer : (n : Node) → count_of n new.nodes ≤ count_of n old.nodes
  pub elsewhere : SameOutsideBlock new.nodes old.nodes block
  pub shape : KeepsShape old new

-- of the block a partition has these nodes now; other blocks' nodes, how many nodes there is room
-- for, and its stamps are as before
pub record Renews (block : ℕ) (due : List Node) (old new : Part) : Type 0 where
  pub nodes : NodesAt block new.nodes due
  pub others : SameOutsideBlock new.nodes old.nodes block
  pub shape : KeepsShape old new

-- the same of two blocks at once
pub record RenewsBoth (a : ℕ) (due : List Node) (b : ℕ) (due' : List Node)
    (old new : Part) : Type 0 where
  pub first : NodesAt a new.nodes due
  pub second : NodesAt b new.nodes due'
  pub others : (n : Node) → n.block ≢ a → n.block ≢ b
      → count_of n new.nodes ≡ count_of n old.nodes
  pub shape : KeepsShape old new
