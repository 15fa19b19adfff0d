-- The verdict on some bytes: a legal report, or the point and the line that they fail at.
use Rattle.std.specs.Prelude.{ℕ, suc, ◌≡◌, ◌<◌, ◌≤◌, ◌⊎◌, Some, List, length}
use Rattle.std.specs.List.{slice_get, zip, AllByRecursion}
use Rattle.key_tuple.specs.Order.{FieldList, byte_count}
use Rattle.key_tuple.specs.declared.TheConstants.{MAX_KEY_BYTES}
use Rattle.map_history.specs.Bytes.{AreBytes, IsValue}
use Rattle.map_history.specs.Map.{Pair, MapChange, Put, Set, Del}
use Rattle.map_history.specs.Reply.{MapReply, Value, Row}
use Rattle.map_history.specs.Report.{ScanPiece, Answer, Replied, Scanned, AnswerLine, ChangeLine, IndexPart, Report}
use Rattle.map_history.specs.LegalReport.{Line, Run, HasForm}
use Rattle.map_history.specs.Spelling.{spell}
use Rattle.report_laws.specs.SpellingLaws.{IsPlainButCounts}
use Rattle.audit_law.specs.TextLines.{ended_lines}
use Rattle.audit_law.specs.Points.{Point, number_of, KeepsPoint, BreaksFirst}

-- a key of so many fields, within its limit
pub record IsKey (fields : ℕ) (key : FieldList) : Type 0 where
  pub count : length key ≡ fields
  pub bytes : AllByRecursion AreBytes key
  pub short : byte_count key ≤ MAX_KEY_BYTES

-- a row of an index whose keys have so many fields
abbrev pub IsRow : ℕ → Pair → Type 0
IsRow fields row = IsKey fields row.key × IsValue row.value

-- what a reply tells is a value, or a row
abbrev pub TellsRow : ℕ → MapReply → Type 0
TellsRow fields (Value v) = IsValue v
TellsRow fields (Row k v) = IsKey fields k × IsValue v
TellsRow fields reply = Unit {0}

-- what an answer prints can be read: its rows are rows
abbrev pub PrintsRows : ℕ → Answer → Type 0
PrintsRows fields (Replied reply point columns) = TellsRow fields reply
PrintsRows fields (Scanned pieces) =
    AllByRecursion (λ (piece : ScanPiece). AllByRecursion (IsRow fields) piece.rows) pieces
PrintsRows fields answer = Unit {0}

-- a change writes such a row, or takes one out
abbrev pub ChangesRow : ℕ → MapChange → Type 0
ChangesRow fields (Put k v) = IsKey fields k × IsValue v
ChangesRow fields (Set k v) = IsKey fields k × IsValue v
ChangesRow fields (Del k) = IsKey fields k

-- a report that can stand in a text: it has the run's form, its numbers fit 64 bits, but for the
-- statistics, which the form tells, and its keys and values are those of indexes whose keys have so
-- many fields
pub record IsFormed (run : Run) (fields : List ℕ) (report : Report) : Type 0 where
  pub form : HasForm run report
  pub plain : IsPlainButCounts report
  pub answers : (lane place count : ℕ) (lines : List Line) (told : List AnswerLine)
      (x : Line × AnswerLine)
      → slice_get run.lanes lane ≡ Some lines → slice_get report.lanes lane ≡ Some told
      → slice_get (zip lines told) place ≡ Some x
      → slice_get fields x.0.op.index ≡ Some count → PrintsRows count x.1.answer
  pub entries : (index count : ℕ) (part : IndexPart)
      → slice_get report.indexes index ≡ Some part → slice_get fields index ≡ Some count
      → AllByRecursion (λ (e : ChangeLine). ChangesRow count e.change) part.entries

-- the bytes spell this report, which can stand in a text
pub record TellsReport (run : Run) (fields : List ℕ) (bytes : List ℕ) (report : Report) : Type 0 where
  pub formed : IsFormed run fields report
  pub spelled : bytes ≡ spell report

-- up to so many lines the text may be that of some report
pub record StandsTo (run : Run) (fields : List ℕ) (bytes : List ℕ) (count : ℕ) : Type 0 where
  pub report : Report
  pub formed : IsFormed run fields report
  pub alike : (n : ℕ) → n < count
      → slice_get (ended_lines bytes) n ≡ slice_get (ended_lines (spell report)) n

-- the first line at which no form can stand, from 0; where lines are missing it is behind the last
pub record LosesForm (run : Run) (fields : List ℕ) (bytes : List ℕ) (n : ℕ) : Type 0 where
  pub before : StandsTo run fields bytes n
  pub none : ¬ StandsTo run fields bytes (suc n)

-- where a report fails: a line, from 1, and a point
pub record Fail : Type 0 where
  pub line : ℕ
  pub point : ℕ

-- the bytes are a legal report, or fail
pub data Verdict : Type 0 where
  Legal : Verdict
  Illegal : Fail → Verdict

-- they spell a report all of whose lines keep all points
pub record IsSound (run : Run) (fields : List ℕ) (bytes : List ℕ) : Type 0 where
  pub report : Report
  pub told : TellsReport run fields bytes report
  pub keeps : (point : Point) → KeepsPoint run report point

-- they spell a report that breaks this point first, at this line
pub record BreaksPoint (run : Run) (fields : List ℕ) (bytes : List ℕ) (fail : Fail) : Type 0 where
  pub report : Report
  pub told : TellsReport run fields bytes report
  pub point : Point
  pub is_point : fail.point ≡ number_of point
  pub n : ℕ
  pub is_line : fail.line ≡ suc n
  pub breaks : BreaksFirst run report point n

-- they spell no report
pub record HasNoForm (run : Run) (fields : List ℕ) (bytes : List ℕ) (fail : Fail) : Type 0 where
  pub is_point : fail.point ≡ 1
  pub n : ℕ
  pub is_line : fail.line ≡ suc n
  pub loses : LosesForm run fields bytes n

-- the verdict on the bytes
abbrev pub IsVerdict : Run → List ℕ → List ℕ → Verdict → Type 0
IsVerdict run fields bytes Legal = IsSound run fields bytes
IsVerdict run fields bytes (Illegal fail) =
    HasNoForm run fields bytes fail ⊎ BreaksPoint run fields bytes fail
