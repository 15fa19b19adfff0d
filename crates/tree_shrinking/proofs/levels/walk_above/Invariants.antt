use Rattle.std.specs.Prelude.{◌≤◌}
use Rattle.latch_space.specs.Passes.{view, IsSamePass}
use Rattle.latch_space.specs.Spaces.{IsPassOf}
use Rattle.buffer_pool.specs.Forests.{IsFittedTree}
use Rattle.tree_growth.specs.Pages.{HoldsRoot}
use Rattle.tree_growth.specs.Ways.{ArrivesAt}
use Rattle.tree_shrinking.proofs.levels.walk_above.Given as goal

abbrev pub invariant-loop-at : goal.invariant-loop-at
invariant-loop-at g l = record {
  same : IsSamePass l.fn.pass l.pass;
  own : IsPassOf l.space l.pass;
  reaches : ArrivesAt l.fn.pass l.index l.key.tuple 0 l.at l.pass;
  root : l.at.level ≤ l.level → HoldsRoot (view l.pass) l.at.block l.index;
  fits : IsFittedTree (view l.pass);
}

abbrev pub decreases-loop-at : goal.decreases-loop-at
decreases-loop-at g l = l.at.level
