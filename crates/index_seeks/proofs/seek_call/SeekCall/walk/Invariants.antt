use Rattle.latch_space.specs.Passes.{view, IsSamePass}
use Rattle.latch_space.specs.Spaces.{IsPassOf}
use Rattle.forest_world.specs.Held.{shape_of_pass}
use Rattle.index_seeks.specs.SeekHands.{WalksAt}
use Rattle.index_seeks.specs.SeekSteps.{PassesLeaves}
use Rattle.index_seeks.proofs.seek_call.SeekCall.walk.Given as goal

abbrev pub invariant-loop : goal.invariant-loop
invariant-loop g l = record {
  own : IsSamePass l.fn.pass l.pass × IsPassOf l.self.space.now l.pass;
  walks : WalksAt l.pass l.self.index l.self.mode l.self.tuple.now.fields l.here;
  passes : PassesLeaves (shape_of_pass l.fn.pass) (view l.fn.pass) (view l.pass) l.self.index;
}
