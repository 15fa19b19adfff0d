-- The line of an answer that isn't in pieces, as it is read.
use Rattle.std.specs.Prelude.{ℕ, ◌≡◌, ◌<◌, ◌^◌, Bool, true, false, ◌&&◌, nat_lt, Option, Some, None, option_and_then, option_map, unwrap_or, if◌then◌else◌, List, [], ◌∷◌, drop, codes}
use Rattle.std.specs.List.{find}
use Rattle.std.specs.Str.{bytes_eq}
use Rattle.map_history.specs.declared.columns.How.{How}
use Rattle.map_history.specs.declared.columns.How.TheVariants as how
use Rattle.map_history.specs.declared.columns.Note.{Note}
use Rattle.map_history.specs.declared.columns.Note.TheVariants as note
use Rattle.map_history.specs.LegalReport.{has_form}
use Rattle.map_history.specs.Operation.{Ask, is_scan}
use Rattle.map_history.specs.Reply.{MapReply, Value, Row, Done, Absent, Duplicate}
use Rattle.map_history.specs.Report.{Columns, Answer, Replied, LogFull, SpaceFull, Scanned}
use Rattle.map_history.specs.Spelling.{answer_text}
use Rattle.map_history.specs.Words.{how_text, note_text, counted_hows, counted_notes}
use Rattle.script.specs.Grammar.{decimal_from, field_of, tuple_of}
use Rattle.report_laws.specs.SpellingLaws.{IsSmallAnswer}
use Rattle.audit_law.specs.Verdicts.{PrintsRows}
use Rattle.line_forms.specs.LineForms.{Lines, Reading, IsLineForm, read_line, in_line}
use Rattle.line_forms.specs.Anew.{anew, words_of}
use Rattle.report_forms.specs.Limits.{is_key, is_value}

-- the word of the first column that is spelled so, or else `-`
abbrev pub how_named : List ℕ → How
how_named word = unwrap_or (find (λ (h : How). bytes_eq (how_text h) word) counted_hows) how.Dash

-- and of the second
abbrev pub note_named : List ℕ → Note
note_named word =
    unwrap_or (find (λ (n : Note). bytes_eq (note_text n) word) (note.No ∷ counted_notes)) note.Dash

-- the columns that the two last words name
abbrev pub columns_told : List ℕ → List ℕ → Columns
columns_told how note = record { how = how_named how; note = note_named note }

-- the number behind the first byte
abbrev pub point_told : List ℕ → ℕ
point_told word = decimal_from 0 (drop 1 word)

-- the answer of a word and a number
abbrev pub counted_answer : List ℕ → List ℕ → Columns → Option Answer
counted_answer said number columns =
    if bytes_eq said (codes "log-full") then Some (LogFull (decimal_from 0 number) columns)
    else (if bytes_eq said (codes "ok") then Some (Replied Done (point_told number) columns)
    else (if bytes_eq said (codes "absent") then Some (Replied Absent (point_told number) columns)
    else (if bytes_eq said (codes "duplicate") then
    Some (Replied Duplicate (point_told number) columns)
    else None)))

-- the answer of a value that was found
abbrev pub value_answer : List ℕ → List ℕ → Columns → Option Answer
value_answer value point columns =
    option_map (λ (v : List ℕ). Replied (Value v) (point_told point) columns) (field_of value)

-- the answer of a row that was found
abbrev pub row_answer : List ℕ → List ℕ → List ℕ → Columns → Option Answer
row_answer key value point columns = option_and_then
    (λ k. option_map (λ (v : List ℕ). Replied (Row k v) (point_told point) columns)
    (field_of value))
    (tuple_of key)

-- the answer that the words of a line tell, whatever its number, which is compared with the rest
abbrev pub answer_told : List (List ℕ) → Option Answer
answer_told (number ∷ said ∷ how ∷ note ∷ []) =
    if bytes_eq said (codes "space-full") then Some (SpaceFull (columns_told how note)) else None
answer_told (number ∷ said ∷ point ∷ how ∷ note ∷ []) =
    counted_answer said point (columns_told how note)
answer_told (number ∷ said ∷ value ∷ point ∷ how ∷ note ∷ []) =
    if bytes_eq said (codes "found") then value_answer value point (columns_told how note)
    else None
answer_told (number ∷ said ∷ key ∷ value ∷ point ∷ how ∷ note ∷ []) =
    if bytes_eq said (codes "found") then row_answer key value point (columns_told how note)
    else None
answer_told words = None

-- an answer that may stand in a text: it has a form of what was asked, its numbers fit 64 bits, and
-- what it prints is of the index
pub record IsAnswerTo (fields : ℕ) (ask : Ask) (answer : Answer) : Type 0 where
  pub form : has_form ask answer ≡ true
  pub small : IsSmallAnswer answer
  pub rows : PrintsRows fields answer

-- its number fits, and it isn't in pieces
abbrev pub is_small : Answer → Bool
is_small (Replied reply point columns) = nat_lt point (2 ^ 64)
is_small (LogFull n columns) = nat_lt n (2 ^ 64)
is_small (SpaceFull columns) = true
is_small (Scanned pieces) = false

-- a reply tells a value or a row of the index, if any
abbrev pub tells_row : ℕ → MapReply → Bool
tells_row fields (Value v) = is_value v
tells_row fields (Row k v) = is_key fields k && is_value v
tells_row fields reply = true

-- an answer does
abbrev pub prints_row : ℕ → Answer → Bool
prints_row fields (Replied reply point columns) = tells_row fields reply
prints_row fields answer = true

-- the same as `IsAnswerTo`, as a test, where no scan was asked
abbrev pub is_answer_to : ℕ → Ask → Answer → Bool
is_answer_to fields ask answer =
    has_form ask answer && is_small answer && prints_row fields answer

-- the line of the answer to such a line with this number
abbrev pub read_answer : ℕ → ℕ → Ask → Lines → Reading Answer
read_answer fields number ask =
    read_line (anew (λ (line : List ℕ). answer_told (words_of line)) (is_answer_to fields ask)
    (answer_text number))

-- the line of an answer is a form of lines, where no scan was asked
abbrev pub AnswersAreRead : Type 0
AnswersAreRead = (fields number : ℕ) (ask : Ask) → 0 < fields → number < 2 ^ 64
    → is_scan ask ≡ false
    → IsLineForm (IsAnswerTo fields ask) (in_line (answer_text number))
    (read_answer fields number ask)
