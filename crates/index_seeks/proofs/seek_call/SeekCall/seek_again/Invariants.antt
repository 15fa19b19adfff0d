use Rattle.std.proofs.Common.{◌≡◌}
use Rattle.latch_space.specs.Passes.{view, count, IsSamePass}
use Rattle.latch_space.specs.Spaces.{IsPassOf}
use Rattle.buffer_pool.specs.AsTaken.{NoException}
use Rattle.index_seeks.specs.SeekSteps.{TriesInVain}
use Rattle.index_seeks.proofs.seek_call.SeekCall.seek_again.Given as goal

abbrev pub invariant-loop : goal.invariant-loop
invariant-loop g l = record {
  own : IsSamePass l.fn.pass l.pass × IsPassOf l.self.space.now l.pass;
  nothing : count l.pass ≡ 0;
  vain : TriesInVain NoException (view l.fn.pass) (view l.pass) l.self.index;
}
