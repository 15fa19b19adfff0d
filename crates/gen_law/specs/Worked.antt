-- A worked first line.
use Rattle.std.specs.Prelude.{◌≡◌, ◌%◌, [], ◌∷◌, codes}
use Rattle.map_history.specs.Operation.{Get}
use Rattle.map_history.specs.LegalReport.{Line}
use Rattle.gen_law.specs.Drawing.{state_after, number_drawn, lane_lines}

-- `get t k01-0346` as the first line of a lane
abbrev pub first_get : Line
first_get = record { line = 1; op = record { index = 0; ask = Get (codes "k01-0346" ∷ []) } }

-- Of lane 1 for the number 0: its first state, the number drawn from it, which of eight it chooses,
-- and the line.
pub record FirstLinesAreDrawn : Type 0 where
  pub state : state_after 1 1 ≡ 7806831264735756412
  pub drawn : number_drawn 7806831264735756412 ≡ 908834774
  pub choice : 908834774 % 8 ≡ 6
  pub lines : lane_lines 0 1 1 ≡ first_get ∷ []
