use Rattle.latch_space.specs.Passes.{IsSamePass}
use Rattle.latch_space.specs.Spaces.{IsPassOf}
use Rattle.tree_shrinking.specs.Joins.{FreesMany}
use Rattle.tree_shrinking.proofs.shrinking.shrink_up.Given as goal

abbrev pub invariant-loop : goal.invariant-loop
invariant-loop g l = record {
  same : IsSamePass l.fn.pass l.pass;
  own : IsPassOf l.space l.pass;
  many : FreesMany l.fn.pass l.index l.level l.key.tuple l.pass;
}
