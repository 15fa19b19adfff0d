use Rattle.std.proofs.Common.{◌≡◌}
use Rattle.latch_space.specs.Passes.{view, count, IsSamePass}
use Rattle.latch_space.specs.Spaces.{IsPassOf}
use Rattle.call_law.specs.Once.{IsQuiet}
use Rattle.index_engine.proofs.writing.write_again.Given as goal

abbrev pub invariant-loop : goal.invariant-loop
invariant-loop g l = record {
  own : IsSamePass l.initial.pass l.pass × IsPassOf l.call.space.now l.pass;
  nothing : count l.pass ≡ 0;
  quiet : IsQuiet (view l.initial.pass) (view l.pass) l.call.index;
}
