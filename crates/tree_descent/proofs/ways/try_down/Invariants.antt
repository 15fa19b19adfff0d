use Rattle.latch_space.specs.Passes.{IsSamePass}
use Rattle.latch_space.specs.Spaces.{IsPassOf}
use Rattle.forest_world.specs.Held.{shape_of_pass}
use Rattle.tree_descent.specs.Leaves.{cut_in}
use Rattle.tree_descent.specs.Ways.{GoesDown}
use Rattle.tree_descent.proofs.ways.try_down.Given as goal

abbrev pub invariant-loop-level : goal.invariant-loop-level
invariant-loop-level g l = record {
  own : IsSamePass l.fn.pass l.pass × IsPassOf l.space l.pass;
  way : GoesDown l.fn.pass
      (cut_in (shape_of_pass l.fn.pass) l.index l.mode (g.T.Fields.fields_of l.tuple)) l.index
      l.level l.block l.pass;
}

abbrev pub decreases-loop-level : goal.decreases-loop-level
decreases-loop-level g l = l.level
