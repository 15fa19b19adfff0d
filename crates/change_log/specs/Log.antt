-- What a log is seen as.
use Rattle.std.specs.Prelude.{ℕ, List}
use Rattle.map_history.specs.LegalReport.{Line}
use Rattle.map_history.specs.Lines.{line_text}
use Rattle.change_log.specs.declared.change.LaneChange.{LaneChange}

-- a change: its number, the lane that made it, and the line that asks for it
pub record ChangeNote : Type 0 where
  pub number : ℕ
  pub lane : ℕ
  pub line : Line

-- what a change of the program is seen as
abbrev pub note_of : LaneChange → ChangeNote
note_of c = record { number = c.number; lane = c.lane; line = line_text c.line.now }

-- the changes that were noted, and how many the log was reserved for
pub record Log : Type 0 where
  pub noted : List ChangeNote
  pub room : ℕ
