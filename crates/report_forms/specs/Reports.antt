-- A whole report, as it is read.
use Rattle.std.specs.Prelude.{ℕ, ◌≡◌, ◌+◌, ◌<◌, ◌^◌, if◌then◌else◌, Ok, Err, List, [], ◌∷◌, length, codes, slice_index_or}
use Rattle.std.specs.List.{AllByRecursion, AllZip, enumerate_from, flat_map, zip}
use Rattle.std.specs.Fmt.{decimal}
use Rattle.map_history.specs.LegalReport.{Line, Run, columns_at}
use Rattle.map_history.specs.Operation.{Ask, is_scan}
use Rattle.map_history.specs.Report.{Answer, AnswerLine, ChangeLine, IndexPart, Report}
use Rattle.map_history.specs.Spelling.{spell, stats_text}
use Rattle.map_history.specs.Statistics.{counts_of}
use Rattle.map_history.specs.Text.{line_of}
use Rattle.report_laws.specs.SpellingLaws.{IsPlainName}
use Rattle.audit_law.specs.TextLines.{ended_lines}
use Rattle.audit_law.specs.Verdicts.{IsFormed, TellsReport, LosesForm}
use Rattle.line_forms.specs.LineForms.{Lines, Reading, IsLineForm, read_line, read_both, read_as, read_whole}
use Rattle.line_forms.specs.Anew.{exactly}
use Rattle.report_forms.specs.Lists.{read_each, each_lines}
use Rattle.report_forms.specs.Entries.{read_entries, part_lines, AreEntriesOf}
use Rattle.report_forms.specs.Answers.{IsAnswerTo, read_answer}
use Rattle.report_forms.specs.Scans.{read_scan, answer_lines}

-- how many fields a key of the index of a line has
abbrev pub fields_of : List ℕ → Line → ℕ
fields_of fields line = slice_index_or fields line.op.index 0

-- what is answered in the line with this number
abbrev pub read_asked : ℕ → ℕ → Ask → Lines → Reading Answer
read_asked fields number ask text =
    if is_scan ask then read_scan fields number text else read_answer fields number ask text

-- the answer to a line
abbrev pub read_told : List ℕ → Line → Lines → Reading AnswerLine
read_told fields line text = read_as
    (λ (answer : Answer). record { line = line.line; answer = answer })
    (read_asked (fields_of fields line) line.line line.op.ask text)

-- an answer that a line may have in a text
pub record IsToldTo (fields : List ℕ) (line : Line) (told : AnswerLine) : Type 0 where
  pub same_line : told.line ≡ line.line
  pub answer : IsAnswerTo (fields_of fields line) line.op.ask told.answer

-- the lines of an answer
abbrev pub told_lines : AnswerLine → Lines
told_lines told = answer_lines told.line told.answer

-- the line before the answers of the lane with this number, from 0
abbrev pub lane_text : ℕ → List ℕ
lane_text number = line_of (codes "lane" ∷ decimal (number + 1) ∷ [])

-- the answers of a lane, with that line
abbrev pub read_lane : List ℕ → ℕ × List Line → Lines → Reading (List AnswerLine)
read_lane fields lane text = read_as (λ (x : Unit {0} × List AnswerLine). x.1) (read_both
    (read_line (exactly (lane_text lane.0)))
    (λ (head : Unit {0}). read_each (read_told fields) lane.1) text)

-- answers that a lane may have in a text
abbrev pub AreToldTo : List ℕ → ℕ × List Line → List AnswerLine → Type 0
AreToldTo fields lane told = AllZip (IsToldTo fields) lane.1 told

-- the lines that they stand in
abbrev pub lane_lines : ℕ × List Line → List AnswerLine → Lines
lane_lines lane told = lane_text lane.0 ∷ flat_map told_lines told

-- the statistics of an index, by the answers of all lanes
abbrev pub stats_told : Run → List (List AnswerLine) → ℕ × List ℕ → List ℕ
stats_told run told index = stats_text index.1
    (counts_of (columns_at run (record { lanes = told; indexes = [] }) index.0))

-- the statistics of each index, and the end
abbrev pub read_stats : Run → List (List AnswerLine) → Lines → Reading (List (Unit {0}) × Unit {0})
read_stats run told text = read_both
    (read_each (λ (index : ℕ × List ℕ). read_line (exactly (stats_told run told index)))
    (enumerate_from 0 run.names))
    (λ (stats : List (Unit {0})). read_line (exactly (line_of (codes "end" ∷ [])))) text

-- the part of each index, its number counted from one on
abbrev pub parts_from : Run → List (List AnswerLine) → ℕ → List (List ℕ)
    → List (List ChangeLine) → List IndexPart
parts_from run told number [] lists = []
parts_from run told number (name ∷ names) [] = []
parts_from run told number (name ∷ names) (entries ∷ lists) = record {
  name = name;
  entries = entries;
  counts = counts_of (columns_at run (record { lanes = told; indexes = [] }) number);
} ∷ parts_from run told (number + 1) names lists

-- what is read of a report: its first line, its answers, its entries, its statistics and its end
abbrev pub ReadParts : Type 0
ReadParts = Unit {0} × (List (List AnswerLine) × (List (List ChangeLine)
    × (List (Unit {0}) × Unit {0})))

-- the report of these
abbrev pub report_from : Run → ReadParts → Report
report_from run x = record {
  lanes = x.1.0;
  indexes = parts_from run x.1.0 0 run.names x.1.1.0;
}

-- a whole report
abbrev pub read_report : Run → List ℕ → Lines → Reading Report
read_report run fields text = read_as (report_from run) (read_both
    (read_line (exactly (line_of (codes "ahi" ∷ codes "run" ∷ []))))
    (λ (first : Unit {0}). read_both
    (read_each (read_lane fields) (enumerate_from 0 run.lanes))
    (λ (told : List (List AnswerLine)). read_both
    (read_each (λ (index : List ℕ × ℕ). read_entries index.1 index.0) (zip run.names fields))
    (λ (lists : List (List ChangeLine)). read_stats run told))) text)

-- a line of a lane: its number fits 64 bits, and its index is one of the schema's
pub record IsReadLine (fields : List ℕ) (line : Line) : Type 0 where
  pub number : line.line < 2 ^ 64
  pub index : line.op.index < length fields

-- a run of a schema and lanes that were read, and the fields of its indexes
pub record IsReadRun (run : Run) (fields : List ℕ) : Type 0 where
  pub names : AllByRecursion IsPlainName run.names
  pub few : length run.lanes < 2 ^ 64
  pub counted : length fields ≡ length run.names
  pub some : AllByRecursion (λ (count : ℕ). 0 < count) fields
  pub lines : AllByRecursion (AllByRecursion (IsReadLine fields)) run.lanes

-- a whole report is a form of lines
abbrev pub ReportsAreRead : Type 0
ReportsAreRead = (run : Run) (fields : List ℕ) → IsReadRun run fields
    → IsLineForm (IsFormed run fields) (λ (report : Report). ended_lines (spell report))
    (read_report run fields)

-- so where it stops the form is lost, at the line with the number of those before it, and what is
-- read whole is the report that the bytes tell
pub record ReportsAreJudged : Type 0 where
  pub stops : (run : Run) (fields bytes : List ℕ) (rest : Lines) → IsReadRun run fields
      → read_whole (read_report run fields (ended_lines bytes)) ≡ Err rest
      → (n : ℕ) × (n + length rest ≡ length (ended_lines bytes)) × LosesForm run fields bytes n
  pub reads : (run : Run) (fields bytes : List ℕ) (report : Report) → IsReadRun run fields
      → read_whole (read_report run fields (ended_lines bytes)) ≡ Ok report
      → TellsReport run fields bytes report
