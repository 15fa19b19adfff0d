use Rattle.std.proofs.Common.{◌≡◌}
use Rattle.latch_space.specs.Passes.{count}
use Rattle.latch_space.specs.Spaces.{IsPassOf}
use Rattle.engine_tests.proofs.busy_leaf.put_rows.Given as goal

-- the pass is one of the space, and holds nothing
abbrev pub invariant-loop-row : goal.invariant-loop-row
invariant-loop-row g l = IsPassOf l.space l.pass × (count l.pass ≡ 0)
