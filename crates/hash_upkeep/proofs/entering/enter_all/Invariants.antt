use Rattle.std.proofs.Common.{◌≡◌, ◌+◌, ◌≤◌, length}
use Rattle.chain_arena.specs.declared.node.Node.{Node}
use Rattle.chain_arena.specs.Bag.{count_of}
use Rattle.hash_partition.specs.Part.{KeepsShape}
use Rattle.hash_upkeep.specs.Hashing.{row_entries}
use Rattle.hash_upkeep.specs.Walk.{IsOnWalk, entries_ahead}
use Rattle.hash_upkeep.proofs.entering.enter_all.Given as goal

abbrev pub invariant-loop-node : goal.invariant-loop-node
invariant-loop-node l = record {
  on : IsOnWalk l.how l.page.rows l.walk;
  counts : (n : Node)
      → count_of n l.part.nodes + count_of n (entries_ahead l.how l.page.rows l.walk)
      ≡ count_of n l.fn.part.nodes + count_of n (row_entries l.how l.page.rows);
  number : length l.part.nodes + length (entries_ahead l.how l.page.rows l.walk)
      ≡ length l.fn.part.nodes + length (row_entries l.how l.page.rows);
  room : length (entries_ahead l.how l.page.rows l.walk) ≤ l.part.spare;
  shape : KeepsShape l.fn.part l.part;
}

abbrev pub decreases-loop-node : goal.decreases-loop-node
decreases-loop-node l = length (entries_ahead l.how l.page.rows l.walk)
