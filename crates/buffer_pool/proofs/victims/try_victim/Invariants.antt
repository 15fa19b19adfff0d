use Rattle.latch_space.specs.Passes.{view, IsSamePass}
use Rattle.latch_space.specs.Spaces.{IsPassOf}
use Rattle.forest_law.specs.declared.objects.Object.{Object}
use Rattle.forest_law.specs.declared.objects.Pool.{Pool}
use Rattle.buffer_pool.specs.Forests.{IsFittedTree}
use Rattle.buffer_pool.specs.Tries.{KnowsPool}
use Rattle.buffer_pool.proofs.VictimLemmas.{HasTried}
use Rattle.buffer_pool.proofs.victims.try_victim.Given as goal

abbrev pub invariant-loop-i : goal.invariant-loop-i
invariant-loop-i l = record {
  same : IsSamePass l.initial.pass l.pass;
  own : IsPassOf l.space l.pass;
  fits : IsFittedTree (view l.pass);
  tried : (t : Object) (x : Pool) → KnowsPool (view l.initial.pass) t x
      → HasTried l.initial.pass l.pass x l.last;
}
