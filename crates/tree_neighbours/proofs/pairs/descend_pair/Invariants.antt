use Rattle.latch_space.specs.Passes.{IsSamePass}
use Rattle.latch_space.specs.Spaces.{IsPassOf}
use Rattle.buffer_pool.specs.AsTaken.{GaveAsTaken}
use Rattle.tree_neighbours.proofs.pairs.descend_pair.Given as goal

abbrev pub invariant-loop : goal.invariant-loop
invariant-loop g l = record {
  own : IsSamePass l.fn.pass l.pass × IsPassOf l.space l.pass;
  vain : GaveAsTaken l.fn.pass l.pass;
}
