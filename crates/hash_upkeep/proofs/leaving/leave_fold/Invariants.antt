use Rattle.std.proofs.Common.{◌≡◌, ◌≢◌, length}
use Rattle.chain_arena.specs.declared.node.Node.{Node}
use Rattle.chain_arena.specs.Bag.{SameOutsideBlock, count_of}
use Rattle.hash_partition.specs.Part.{KeepsShape}
use Rattle.hash_upkeep.proofs.leaving.leave_fold.Given as goal

abbrev pub invariant-loop : goal.invariant-loop
invariant-loop l = record {
  others : (n : Node) → n.fold ≢ l.fold → count_of n l.part.nodes ≡ count_of n l.fn.part.nodes;
  other_blocks : SameOutsideBlock l.part.nodes l.fn.part.nodes l.block;
  shape : KeepsShape l.fn.part l.part;
}

abbrev pub decreases-loop : goal.decreases-loop
decreases-loop l = length l.part.nodes
