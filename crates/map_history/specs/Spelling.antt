-- A report as bytes: each line's words have a space between each two and end with a line feed.
use Rattle.std.specs.Prelude.{ℕ, ◌+◌, List, [], ◌∷◌, ◌++◌, length, sum_by, codes}
use Rattle.std.specs.List.{flat_map, enumerate_from}
use Rattle.std.specs.Fmt.{decimal}
use Rattle.map_history.specs.declared.counts.Counts.{Counts}
use Rattle.map_history.specs.Map.{Pair, MapChange, Put, Set, Del}
use Rattle.map_history.specs.Reply.{MapReply, Value, Row, Done, Absent, Duplicate}
use Rattle.map_history.specs.Report.{Columns, ScanPiece, Answer, Replied, LogFull, SpaceFull, Scanned, AnswerLine, ChangeLine, IndexPart, Report}
use Rattle.map_history.specs.Statistics.{statistics}
use Rattle.map_history.specs.Text.{field_text, key_text, point_text, line_of}
use Rattle.map_history.specs.Words.{how_text, note_text}

-- the words of a reply
abbrev pub reply_words : MapReply → List (List ℕ)
reply_words (Value v) = codes "found" ∷ field_text v ∷ []
reply_words (Row k v) = codes "found" ∷ key_text k ∷ field_text v ∷ []
reply_words Done = codes "ok" ∷ []
reply_words Absent = codes "absent" ∷ []
reply_words Duplicate = codes "duplicate" ∷ []

-- the words of the two columns
abbrev pub column_words : Columns → List (List ℕ)
column_words c = how_text c.how ∷ note_text c.note ∷ []

-- the line of a row that a scan prints
abbrev pub row_line : Pair → List ℕ
row_line row = line_of (codes "row" ∷ key_text row.key ∷ field_text row.value ∷ [])

-- the lines of a piece: its own and those of its rows
abbrev pub piece_lines : ScanPiece → List ℕ
piece_lines piece =
    line_of (codes "piece" ∷ point_text piece.point ∷ decimal (length piece.rows)
    ∷ column_words piece.columns)
    ++ flat_map row_line piece.rows

-- the lines of an answer
abbrev pub answer_text : ℕ → Answer → List ℕ
answer_text line (Replied reply point columns) =
    line_of (decimal line ∷ (reply_words reply ++ point_text point ∷ column_words columns))
answer_text line (LogFull n columns) =
    line_of (decimal line ∷ codes "log-full" ∷ decimal n ∷ column_words columns)
answer_text line (SpaceFull columns) =
    line_of (decimal line ∷ codes "space-full" ∷ column_words columns)
answer_text line (Scanned pieces) =
    line_of (decimal line ∷ codes "scan" ∷ decimal (length pieces)
    ∷ decimal (sum_by (λ (p : ScanPiece). length p.rows) pieces) ∷ [])
    ++ flat_map piece_lines pieces

-- the words of a change
abbrev pub change_words : MapChange → List (List ℕ)
change_words (Put k v) = codes "put" ∷ key_text k ∷ field_text v ∷ []
change_words (Set k v) = codes "set" ∷ key_text k ∷ field_text v ∷ []
change_words (Del k) = codes "del" ∷ key_text k ∷ []

-- a change with its number from 1, and the lane and line that made it
abbrev pub change_text : ℕ → ChangeLine → List ℕ
change_text number e =
    line_of (decimal number ∷ decimal e.lane ∷ decimal e.line ∷ change_words e.change)

-- a statistic: its word and its number
abbrev pub statistic_words : List ℕ × ℕ → List (List ℕ)
statistic_words statistic = statistic.0 ∷ decimal statistic.1 ∷ []

-- the statistics of an index
abbrev pub stats_text : List ℕ → Counts → List ℕ
stats_text name n = line_of (codes "stats" ∷ name ∷ flat_map statistic_words (statistics n))

-- a lane with its number from 1, and its answers
abbrev pub lane_text : ℕ × List AnswerLine → List ℕ
lane_text lane =
    line_of (codes "lane" ∷ decimal (lane.0 + 1) ∷ [])
    ++ flat_map (λ (a : AnswerLine). answer_text a.line a.answer) lane.1

-- the changes of an index
abbrev pub changes_text : IndexPart → List ℕ
changes_text part =
    line_of (codes "changes" ∷ part.name ∷ decimal (length part.entries) ∷ [])
    ++ flat_map (λ (e : ℕ × ChangeLine). change_text (e.0 + 1) e.1) (enumerate_from 0 part.entries)

-- the whole report
abbrev pub spell : Report → List ℕ
spell report =
    line_of (codes "ahi" ∷ codes "run" ∷ [])
    ++ flat_map lane_text (enumerate_from 0 report.lanes)
    ++ flat_map changes_text report.indexes
    ++ flat_map (λ (part : IndexPart). stats_text part.name part.counts) report.indexes
    ++ line_of (codes "end" ∷ [])
