-- What follows from the definition of a verdict.
use Rattle.std.specs.Prelude.{ℕ, ◌≡◌, Some, List, map}
use Rattle.std.specs.List.{slice_get, flat_map}
use Rattle.map_history.specs.Report.{Report}
use Rattle.map_history.specs.LegalReport.{Line, Run, HasForm, IsLegalReport}
use Rattle.map_history.specs.Spelling.{spell}
use Rattle.report_laws.specs.SpellingLaws.{IsPlainButCounts}
use Rattle.audit_law.specs.TextLines.{TextLine, text_lines, ended_lines}
use Rattle.audit_law.specs.Points.{Point, KeepsPoint}
use Rattle.audit_law.specs.Verdicts.{Verdict, IsVerdict}

-- the lines of a report are its text
abbrev pub LinesAreSpelled : Type 0
LinesAreSpelled = (report : Report)
    → spell report ≡ flat_map (λ (line : TextLine). line.text) (text_lines report)

-- each line of a report that can be read is one line of its bytes
abbrev pub LinesAreLines : Type 0
LinesAreLines = (report : Report) → IsPlainButCounts report
    → ended_lines (spell report) ≡ map (λ (line : TextLine). line.text) (text_lines report)

-- no two lines of a lane have one number
abbrev pub LinesDiffer : Run → Type 0
LinesDiffer run = (lane a b : ℕ) (lines : List Line) (x y : Line)
    → slice_get run.lanes lane ≡ Some lines → slice_get lines a ≡ Some x
    → slice_get lines b ≡ Some y → x.line ≡ y.line → a ≡ b

-- a report of a run is legal where it has its form and all its lines keep all points, and only there
pub record LinesJudge : Type 0 where
  pub kept : (run : Run) (report : Report) → LinesDiffer run → IsLegalReport run report
      → (point : Point) → KeepsPoint run report point
  pub legal : (run : Run) (report : Report) → LinesDiffer run → HasForm run report
      → ((point : Point) → KeepsPoint run report point) → IsLegalReport run report

-- the bytes have at most one verdict
abbrev pub OneVerdict : Type 0
OneVerdict = (run : Run) (fields bytes : List ℕ) (v w : Verdict)
    → IsVerdict run fields bytes v → IsVerdict run fields bytes w → v ≡ w
