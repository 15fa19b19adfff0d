use Rattle.std.proofs.Common.{IfSome}
use Rattle.latch_space.specs.Passes.{view}
use Rattle.engine_tests.specs.Marks.{IsMarked}
use Rattle.engine_tests.proofs.cases.first_wrong.Given as goal

-- the walker may restore the cursor, if there is one
abbrev pub invariant-loop-place : goal.invariant-loop-place
invariant-loop-place g l = IfSome l.cursor (λ c. IsMarked (view l.walker.pass) c)
