-- A report, before it is written as bytes.
use Rattle.std.specs.Prelude.{ℕ, List, [], map, Option, Some, None}
use Rattle.std.specs.List.{slice_get}
use Rattle.map_history.specs.declared.columns.How.{How}
use Rattle.map_history.specs.declared.columns.How.TheVariants as how
use Rattle.map_history.specs.declared.columns.Note.{Note}
use Rattle.map_history.specs.declared.columns.Note.TheVariants as note
use Rattle.map_history.specs.declared.counts.Counts.{Counts}
use Rattle.map_history.specs.Map.{Map, MapChange}
use Rattle.map_history.specs.Reply.{MapReply}

-- the two last columns
pub record Columns : Type 0 where
  pub how : How
  pub note : Note

-- the columns of a descent before anything useful is learnt: `cold no`
abbrev pub unlearnt : Columns
unlearnt = record { how = how.Cold; note = note.No }

-- a piece of a scan: the rows that it prints, and the point at which they were read
pub record ScanPiece : Type 0 where
  pub point : ℕ
  pub rows : Map
  pub columns : Columns

-- what is printed for one line
pub data Answer : Type 0 where
  Replied : MapReply → (point : ℕ) → Columns → Answer
  LogFull : (length : ℕ) → Columns → Answer
  SpaceFull : Columns → Answer
  Scanned : List ScanPiece → Answer

-- an answer with the number of its line
pub record AnswerLine : Type 0 where
  pub line : ℕ
  pub answer : Answer

-- a change with the lane and the line that made it, both numbered from 1
pub record ChangeLine : Type 0 where
  pub lane : ℕ
  pub line : ℕ
  pub change : MapChange

-- what is printed of an index: its name, its changes in their order, its statistics
pub record IndexPart : Type 0 where
  pub name : List ℕ
  pub entries : List ChangeLine
  pub counts : Counts

-- a report: the answers lane by lane, and the part of each index
pub record Report : Type 0 where
  pub lanes : List (List AnswerLine)
  pub indexes : List IndexPart

-- the entries of a part, if there is one
abbrev pub entries_in : Option IndexPart → List ChangeLine
entries_in None = []
entries_in (Some part) = part.entries

-- the entries of an index
abbrev pub entries_at : Report → ℕ → List ChangeLine
entries_at report i = entries_in (slice_get report.indexes i)

-- the changes of an index
abbrev pub changes_at : Report → ℕ → List MapChange
changes_at report i = map (λ (e : ChangeLine). e.change) (entries_at report i)
