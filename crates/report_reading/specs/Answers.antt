-- Answers that are read.
use Rattle.std.specs.Prelude.{ℕ, Bool, true, false, ◌&&◌, if◌then◌else◌, Option, Some, None, option_map, List, [], ◌∷◌, codes}
use Rattle.std.specs.Str.{bytes_eq}
use Rattle.map_history.specs.Map.{Put, Set, Del}
use Rattle.map_history.specs.Operation.{Ask, Get, Make, Seek, Scan}
use Rattle.map_history.specs.Reply.{MapReply, Value, Row, Done, Absent, Duplicate}
use Rattle.map_history.specs.Report.{Answer, Replied, LogFull, SpaceFull}
use Rattle.report_forms.specs.Answers.{columns_told, counted_answer, value_answer, row_answer, is_small, prints_row}
use Rattle.script.specs.Grammar.{both}
use Rattle.report_reading.specs.declared.answer_line.ReadReply.{ReadReply}
use Rattle.report_reading.specs.declared.answer_line.ReadReply.TheVariants as reply
use Rattle.report_reading.specs.declared.answer_line.ReadAnswer.{ReadAnswer}
use Rattle.report_reading.specs.declared.answer_line.ReadAnswer.TheVariants as answer
use Rattle.report_reading.specs.Columns.{columns_seen}

-- a reply as a report has it
abbrev pub reply_seen : ReadReply → MapReply
reply_seen (reply.Value value) = Value value
reply_seen (reply.Row key value) = Row key.tuple value
reply_seen reply.Done = Done
reply_seen reply.Absent = Absent
reply_seen reply.Duplicate = Duplicate

-- an answer as a report has it
abbrev pub answer_seen : ReadAnswer → Answer
answer_seen (answer.Replied reply point columns) =
    Replied (reply_seen reply) point (columns_seen columns)
answer_seen (answer.LogFull length columns) = LogFull length (columns_seen columns)
answer_seen (answer.SpaceFull columns) = SpaceFull (columns_seen columns)

-- a change is asked for
abbrev pub asks_change : Ask → Bool
asks_change (Get k) = false
asks_change (Make c) = true
asks_change (Seek mode tuple) = false
asks_change (Scan from to limit) = false

-- one that writes a row
abbrev pub asks_row : Ask → Bool
asks_row (Get k) = false
asks_row (Make (Put k v)) = true
asks_row (Make (Set k v)) = true
asks_row (Make (Del k)) = false
asks_row (Seek mode tuple) = false
asks_row (Scan from to limit) = false

-- an answer may be told in one line, whatever was asked
abbrev pub tells_answer : ℕ → Answer → Bool
tells_answer fields answer = is_small answer && prints_row fields answer

-- the reply of a word alone
abbrev pub word_reply : List ℕ → Option MapReply
word_reply word =
    if bytes_eq word (codes "ok") then Some Done
    else (if bytes_eq word (codes "absent") then Some Absent
    else (if bytes_eq word (codes "duplicate") then Some Duplicate else None))

-- what is told behind `space-full`
abbrev pub space_told : List (List ℕ) → Option Answer
space_told words =
    option_map (λ (two : List ℕ × List ℕ). SpaceFull (columns_told two.0 two.1)) (both words)

-- behind another word
abbrev pub counted_told : List ℕ → List (List ℕ) → Option Answer
counted_told said (number ∷ how ∷ note ∷ []) = counted_answer said number (columns_told how note)
counted_told said words = None

-- and behind `found`
abbrev pub found_told : List (List ℕ) → Option Answer
found_told (value ∷ point ∷ how ∷ note ∷ []) = value_answer value point (columns_told how note)
found_told (key ∷ value ∷ point ∷ how ∷ note ∷ []) =
    row_answer key value point (columns_told how note)
found_told words = None
