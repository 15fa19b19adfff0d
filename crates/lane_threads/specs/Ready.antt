-- When a lane's lines can be worked by a pass.
use Rattle.std.specs.Prelude.{ℕ, ◌≡◌, ◌+◌, List}
use Rattle.map_history.specs.declared.line.Line.{Line}
use Rattle.lane_threads.specs.Engine.{Engine, EnginePass, known, IsOf, indexes_of}
use Rattle.lane_threads.specs.Workable.{AreWorkable}

-- The pass is the engine's, the lane has the number after the pass's lowest one, the engine has so
-- many indexes, and the lines can be asked.
pub record IsReady (engine : Engine) (lane indexes : ℕ) (pass : EnginePass)
    (lines : List Line) : Type 0 where
  pub own : IsOf engine pass
  pub lane_is : lane ≡ (known pass).low + 1
  pub indexes_are : indexes ≡ indexes_of engine
  pub lines_can : AreWorkable engine lines
