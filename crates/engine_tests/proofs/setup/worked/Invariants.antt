use Rattle.index_engine.specs.Engines.{IsOf}
use Rattle.engine_tests.proofs.setup.worked.Given as goal

-- the pass is one of the engine
abbrev pub invariant-loop-place : goal.invariant-loop-place
invariant-loop-place g l = IsOf l.engine l.pass
