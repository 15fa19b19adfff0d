-- What the passes of lanes said.
use Rattle.std.specs.Prelude.{ℕ, ◌≡◌, ◌+◌, List, length}
use mathlib.Core.Option.{some}
use lib.ListN.{get_elem?}
use Rattle.map_history.specs.Report.{AnswerLine}
use Rattle.map_history.specs.LegalReport.{Line}
use Rattle.call_law.specs.Spoken.{spoken}
use Rattle.lane_threads.specs.Engine.{EnginePass, known}
use Rattle.lane_law.specs.Worked.{lane_sayings}

-- there are as many lanes as passes, and each pass said what the lines of its lane were answered,
-- the first as the lane n
pub record SayLanes (n : ℕ) (passes : List EnginePass) (lanes : List (List Line))
    (told : List (List AnswerLine)) : Type 0 where
  pub lanes_long : length lanes ≡ length passes
  pub told_long : length told ≡ length passes
  pub each : (k : ℕ) (p : EnginePass) (lines : List Line) (answers : List AnswerLine)
      → get_elem? passes k ≡ some p → get_elem? lanes k ≡ some lines
      → get_elem? told k ≡ some answers → spoken (known p).said ≡ lane_sayings (n + k) lines answers
