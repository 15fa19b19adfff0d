use Rattle.std.proofs.Common.{◌≡◌, ◌⊎◌, ◌≤◌, length}
use Rattle.chain_arena.specs.declared.node.Node.{Node}
use Rattle.chain_arena.specs.Bag.{SameOutsideBlock, count_of}
use Rattle.hash_partition.specs.Part.{KeepsShape}
use Rattle.hash_upkeep.specs.Hashing.{row_entries}
use Rattle.hash_upkeep.specs.Walk.{IsOnWalk, entries_ahead}
use Rattle.hash_upkeep.specs.Cover.{count_with}
use Rattle.hash_upkeep.proofs.leaving.leave_rows.Given as goal

abbrev pub invariant-loop-node : goal.invariant-loop-node
invariant-loop-node l = record {
  on : IsOnWalk l.how l.page.rows l.walk;
  gone : (n : Node) → n.block ≡ l.how.block
      → 1 ≤ count_with n.fold (row_entries l.how l.page.rows)
      → (count_of n l.part.nodes ≡ 0)
      ⊎ (1 ≤ count_with n.fold (entries_ahead l.how l.page.rows l.walk));
  fewer : (n : Node) → count_of n l.part.nodes ≤ count_of n l.fn.part.nodes;
  others : SameOutsideBlock l.part.nodes l.fn.part.nodes l.how.block;
  shape : KeepsShape l.fn.part l.part;
}

abbrev pub decreases-loop-node : goal.decreases-loop-node
decreases-loop-node l = length (entries_ahead l.how l.page.rows l.walk)
