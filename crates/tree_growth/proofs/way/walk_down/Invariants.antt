use Rattle.std.proofs.Common.{◌≡◌, false}
use Rattle.latch_space.specs.Passes.{IsSamePass}
use Rattle.latch_space.specs.Spaces.{IsPassOf}
use Rattle.tree_growth.specs.Ways.{ArrivesAt}
use Rattle.tree_growth.proofs.way.walk_down.Given as goal

abbrev pub invariant-loop-at : goal.invariant-loop-at
invariant-loop-at g l = record {
  same : IsSamePass l.fn.pass l.pass;
  own : IsPassOf l.space l.pass;
  reaches : ArrivesAt l.fn.pass l.index l.key.tuple l.need l.at l.pass;
  fits : l.at.is_full ≡ false;
}

abbrev pub decreases-loop-at : goal.decreases-loop-at
decreases-loop-at g l = l.at.level
