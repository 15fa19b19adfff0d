-- What a lane's work is.
use Rattle.std.specs.Prelude.{ℕ, ◌≡◌, Option, Some, IfSome, List, [], ◌∷◌, ◌++◌, set, map}
use Rattle.std.specs.List.{slice_get, zip}
use Rattle.map_history.specs.declared.counts.Counts.{Counts}
use Rattle.map_history.specs.declared.reply.Reply.{Reply}
use Rattle.map_history.specs.declared.reply.Reply.TheVariants as word
use Rattle.map_history.specs.declared.reply.Told.{Told}
use Rattle.map_history.specs.declared.line.Line.{Line}
use Rattle.map_history.specs.Lines.{line_text}
use Rattle.map_history.specs.Map.{Pair}
use Rattle.map_history.specs.Spelling.{answer_text}
use Rattle.map_history.specs.Statistics.{counts_of}
use Rattle.map_history.specs.Told.{answer_of, columns_told}
use Rattle.change_log.specs.Log.{ChangeNote, Log}
use Rattle.map_history.specs.LegalReport as legal
use Rattle.map_history.specs.Report.{AnswerLine}
use Rattle.index_engine.specs.declared.engine.EnginePass.{EnginePass}
use Rattle.index_engine.specs.Engines.{known, lessons_of}
use Rattle.report_text.specs.Texts.{answer_line_text}
use Rattle.lane_law.specs.Worked.{Worked}
use Rattle.lane_law.specs.Merged.{lane_notes}
use Rattle.lane_law.specs.Taught.{Taught}
use Rattle.column_counts.specs.Counted.{AreCounts}
use Rattle.column_counts.specs.Sums.{sum_of}
use Rattle.lane_threads.specs.declared.lane.LaneWork.{LaneWork}

-- The lines were answered one after another by a pass that was p and is q, which tried what their
-- columns ask for: their answers are printed so, the changes among them are noted, and their columns
-- are counted index by index.
pub record Works (p q : EnginePass) (lines : List legal.Line) (texts : List (List ℕ)) (log : Log)
    (counts : List Counts) : Type 0 where
  pub answers : List AnswerLine
  pub worked : Worked (known p) (known q) lines answers
  pub taught : Taught (lessons_of p) (lessons_of q) lines answers
  pub printed : texts ≡ map answer_line_text answers
  pub noted : log.noted ≡ lane_notes (known p).low lines answers
  pub counted : AreCounts (known p).terms.indexes (λ i. legal.columns_in i (zip lines answers))
      counts

-- what is noted of a line that is told so: a change that was made
abbrev pub told_notes : ℕ → legal.Line → Told → List ChangeNote
told_notes lane line told = by_word told.reply told.point
  where
    by_word : Reply → Option ℕ → List ChangeNote
    by_word word.Ok (Some point) = record { number = point; lane = lane; line = line } ∷ []
    by_word reply point = []

-- the log has the change of the line behind the others
abbrev pub NotesLine : Log → Log → ℕ → Line → Told → Type 0
NotesLine old new lane line told = new.noted ≡ old.noted ++ told_notes lane (line_text line) told

-- the texts have the answer to the line behind the others
abbrev pub PrintsLine : List (List ℕ) → List (List ℕ) → Line → Told → Pair → Type 0
PrintsLine old new line told row = IfSome (answer_of (line_text line).op.ask told row)
    (λ a. new ≡ old ++ answer_text line.line a ∷ [])

-- the columns of what the line is told are counted with those of its index
abbrev pub CountsLine : List Counts → List Counts → Line → Told → Type 0
CountsLine old new line told = (n : Counts) → slice_get old (line_text line).op.index ≡ Some n
    → new ≡ set old (line_text line).op.index (sum_of n (counts_of (columns_told told ∷ [])))

-- The line was told so: its answer is printed, its change is noted, if it made one, and its columns
-- are counted.
pub record AddsLine (old new : LaneWork) (lane : ℕ) (line : Line) (told : Told)
    (row : Pair) : Type 0 where
  pub printed : PrintsLine old.answers new.answers line told row
  pub noted : NotesLine old.log new.log lane line told
  pub counted : CountsLine old.counts.items new.counts.items line told
  pub room : new.log.room ≡ old.log.room
