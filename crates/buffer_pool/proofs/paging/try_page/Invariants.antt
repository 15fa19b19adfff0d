use Rattle.latch_space.specs.Passes.{IsSamePass}
use Rattle.latch_space.specs.Spaces.{IsPassOf}
use Rattle.buffer_pool.specs.Looking.{GivesNothing}
use Rattle.buffer_pool.proofs.paging.try_page.Given as goal

abbrev pub invariant-loop : goal.invariant-loop
invariant-loop g l = record {
  same : IsSamePass l.initial.pass l.pass;
  own : IsPassOf l.space l.pass;
  gives : GivesNothing l.initial.pass l.pass;
}
