use Rattle.std.proofs.Common.{◌≡◌, List, ◌∷◌, ◌++◌}
use Rattle.lane_threads.specs.Engine.{EnginePass}
use Rattle.lane_threads.specs.Gathered.{Gathers}
use Rattle.lane_threads.proofs.gathering.gather.Given as goal

-- the passes behind those that are left are gathered
abbrev pub invariant-loop-lower : goal.invariant-loop-lower
invariant-loop-lower l = record {
  first : EnginePass;
  others : List EnginePass;
  parts : l.fn.passes.items ≡ l.passes.items ++ first ∷ others;
  gathers : Gathers l.engine (first ∷ others) l.whole;
}

abbrev pub decreases-loop-lower : goal.decreases-loop-lower
decreases-loop-lower l = goal.left-loop-lower l
