-- The lines of a report's text, each with what it tells.
use Rattle.std.specs.Prelude.{ℕ, ◌+◌, ◌==◌, if◌then◌else◌, List, [], ◌∷◌, ◌++◌, length, map, sum_by, codes}
use Rattle.std.specs.List.{flat_map, enumerate_from, onto_first}
use Rattle.std.specs.Fmt.{decimal}
use Rattle.map_history.specs.Map.{Pair}
use Rattle.map_history.specs.Report.{ScanPiece, Answer, Scanned, AnswerLine, ChangeLine, IndexPart, Report}
use Rattle.map_history.specs.Spelling.{column_words, row_line, answer_text, change_text, stats_text}
use Rattle.map_history.specs.Text.{point_text, line_of}

-- what a line is told of: the answer of a line of a lane, a piece of that answer, an entry of an
-- index, or what the form alone speaks of; lanes, places, pieces and entries are counted from 0
pub data Subject : Type 0 where
  Answered : (lane place : ℕ) → Subject
  Pieced : (lane place piece : ℕ) → Subject
  Listed : (index entry : ℕ) → Subject
  Formal : Subject

-- a line of the text: its bytes with the line feed, and its subject
pub record TextLine : Type 0 where
  pub text : List ℕ
  pub subject : Subject

-- a line that the form alone speaks of
abbrev pub formal : List ℕ → TextLine
formal text = record { text = text; subject = Formal }

-- the lines of a piece
abbrev pub piece_text_lines : ℕ → ℕ → ℕ × ScanPiece → List TextLine
piece_text_lines lane place piece = record {
  text = line_of (codes "piece" ∷ point_text piece.1.point ∷ decimal (length piece.1.rows)
      ∷ column_words piece.1.columns);
  subject = Pieced lane place piece.0;
} ∷ map (λ (row : Pair). formal (row_line row)) piece.1.rows

-- the line that an answer begins with
abbrev pub head_text : ℕ → Answer → List ℕ
head_text line (Scanned pieces) = line_of (decimal line ∷ codes "scan" ∷ decimal (length pieces)
    ∷ decimal (sum_by (λ (p : ScanPiece). length p.rows) pieces) ∷ [])
head_text line answer = answer_text line answer

-- the pieces of an answer
abbrev pub pieces_of : Answer → List ScanPiece
pieces_of (Scanned pieces) = pieces
pieces_of answer = []

-- the lines of an answer
abbrev pub answer_text_lines : ℕ → ℕ × AnswerLine → List TextLine
answer_text_lines lane a = record {
  text = head_text a.1.line a.1.answer;
  subject = Answered lane a.0;
} ∷ flat_map (piece_text_lines lane a.0) (enumerate_from 0 (pieces_of a.1.answer))

-- the lines of a lane
abbrev pub lane_text_lines : ℕ × List AnswerLine → List TextLine
lane_text_lines lane = formal (line_of (codes "lane" ∷ decimal (lane.0 + 1) ∷ []))
    ∷ flat_map (answer_text_lines lane.0) (enumerate_from 0 lane.1)

-- the line of an entry
abbrev pub entry_text_line : ℕ → ℕ × ChangeLine → TextLine
entry_text_line index e = record {
  text = change_text (e.0 + 1) e.1;
  subject = Listed index e.0;
}

-- the lines of the entries of an index
abbrev pub part_text_lines : ℕ × IndexPart → List TextLine
part_text_lines part =
    formal (line_of (codes "changes" ∷ part.1.name ∷ decimal (length part.1.entries) ∷ []))
    ∷ map (entry_text_line part.0) (enumerate_from 0 part.1.entries)

-- the line of the statistics of an index
abbrev pub stats_text_line : IndexPart → TextLine
stats_text_line part = formal (stats_text part.name part.counts)

-- the lines of a report, in the order of its text
abbrev pub text_lines : Report → List TextLine
text_lines report =
    formal (line_of (codes "ahi" ∷ codes "run" ∷ []))
    ∷ (flat_map lane_text_lines (enumerate_from 0 report.lanes)
    ++ (flat_map part_text_lines (enumerate_from 0 report.indexes)
    ++ (map stats_text_line report.indexes
    ++ formal (line_of (codes "end" ∷ [])) ∷ [])))

-- the lines of some bytes, each with its line feed, which the last may lack
abbrev pub ended_lines : List ℕ → List (List ℕ)
ended_lines [] = []
ended_lines (b ∷ bytes) =
    if b == 10 then (b ∷ []) ∷ ended_lines bytes else onto_first b (ended_lines bytes)
