-- How the entries of a report come from what the lanes noted.
use Rattle.std.specs.Prelude.{ℕ, ◌≡◌, ◌+◌, Some, List, [], ◌∷◌, length, map}
use Rattle.std.specs.List.{slice_get, flat_map, zip}
use Rattle.change_log.specs.Log.{ChangeNote, Log}
use Rattle.change_log.specs.Merge.{IsMerge}
use Rattle.change_log.specs.Entries.{ArePrinted, AreCountedUp}
use Rattle.map_history.specs.Map.{MapChange}
use Rattle.map_history.specs.Operation.{Make}
use Rattle.map_history.specs.Reply.{Done}
use Rattle.map_history.specs.Report.{Columns, Answer, Replied, AnswerLine, IndexPart, Report}
use Rattle.map_history.specs.LegalReport.{Line, Run, IsAnswered}
use Rattle.index_law.specs.State.{Entries}

-- the change at a point that a line of the lane k asks for: lanes are counted from 0 here, and from
-- 1 in notes
abbrev pub note_at : ℕ → Line → ℕ → ChangeNote
note_at k line point = record { number = point; lane = k + 1; line = line }

-- what the lane k notes of a line that is answered so: a change that was made
abbrev pub notes_of : ℕ → Line → Answer → List ChangeNote
notes_of k line (Replied Done point columns) = note_at k line point ∷ []
notes_of k line answer = []

-- what it notes of all its lines
abbrev pub lane_notes : ℕ → List Line → List AnswerLine → List ChangeNote
lane_notes k lines answers =
    flat_map (λ (x : Line × AnswerLine). notes_of k x.0 x.1.answer) (zip lines answers)

-- what the lanes k, k + 1 and so on note
abbrev pub all_notes : ℕ → List (List Line) → List (List AnswerLine) → List (List ChangeNote)
all_notes k [] told = []
all_notes k (lines ∷ lanes) [] = []
all_notes k (lines ∷ lanes) (answers ∷ told) =
    lane_notes k lines answers ∷ all_notes (k + 1) lanes told

-- each lane noted its changes in a log of its own, in their order, and nothing else
abbrev pub HasNotes : Run → Report → List Log → Type 0
HasNotes run report logs = map (λ (log : Log). log.noted) logs ≡ all_notes 0 run.lanes report.lanes

-- a noted change is the operation of its line, which is answered `ok` at its number in its lane
pub record IsNoted (run : Run) (report : Report) (i : ℕ) (note : ChangeNote) : Type 0 where
  pub lane : ℕ
  pub place : ℕ
  pub change : MapChange
  pub columns : Columns
  pub answered : IsAnswered run report lane place note.line (Replied Done note.number columns)
  pub same_lane : note.lane ≡ lane + 1
  pub same_op : note.line.op ≡ record { index = i; ask = Make change }

-- the merged changes are as many as those of the list, numbered from 1, and each is noted
pub record IsNumbered (run : Run) (report : Report) (i : ℕ) (xs : Entries)
    (merged : List ChangeNote) : Type 0 where
  pub long : length merged ≡ length xs
  pub numbers : AreCountedUp merged
  pub noted : (n : ℕ) (note : ChangeNote) → slice_get merged n ≡ Some note
      → IsNoted run report i note

-- each index has as its entries the changes that the logs merge to
abbrev pub HasMerged : Report → List Log → Type 0
HasMerged report logs = (i : ℕ) (part : IndexPart) → slice_get report.indexes i ≡ Some part
    → (merged : List ChangeNote) × IsMerge i logs merged × ArePrinted merged part.entries
