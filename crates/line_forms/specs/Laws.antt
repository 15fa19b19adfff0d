-- Where reading stops, no form can stand.
use Rattle.std.specs.Prelude.{ℕ, ◌≡◌, ◌+◌, List, length, Ok, Err}
use Rattle.map_history.specs.Report.{Report}
use Rattle.map_history.specs.LegalReport.{Run}
use Rattle.map_history.specs.Spelling.{spell}
use Rattle.audit_law.specs.TextLines.{ended_lines}
use Rattle.audit_law.specs.Verdicts.{IsFormed, TellsReport, LosesForm}
use Rattle.line_forms.specs.LineForms.{Lines, Reading, IsLineForm, read_whole}

-- where a form of reports is read, the line at which it stops is the first at which none can stand,
-- and what it reads whole is told
pub record ReadingJudges : Type 0 where
  pub stops : (run : Run) (fields bytes : List ℕ) (read : Lines → Reading Report) (rest : Lines)
      → IsLineForm (IsFormed run fields) (λ report. ended_lines (spell report)) read
      → read_whole (read (ended_lines bytes)) ≡ Err rest
      → (n : ℕ) × (n + length rest ≡ length (ended_lines bytes)) × LosesForm run fields bytes n
  pub reads : (run : Run) (fields bytes : List ℕ) (read : Lines → Reading Report) (report : Report)
      → IsLineForm (IsFormed run fields) (λ report. ended_lines (spell report)) read
      → read_whole (read (ended_lines bytes)) ≡ Ok report → TellsReport run fields bytes report
