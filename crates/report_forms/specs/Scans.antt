-- The lines of a scan's answer, as they are read.
use Rattle.std.specs.Prelude.{ℕ, zero, suc, ◌+◌, ◌-◌, ◌<◌, ◌≡◌, ◌^◌, Bool, true, false, ◌&&◌, ◌==◌, nat_lt, nat_le, if◌then◌else◌, Option, Some, None, option_and_then, option_map, Ok, List, [], ◌∷◌, ◌++◌, length, map, sum_by, codes}
use Rattle.std.specs.List.{AllByRecursion, flat_map}
use Rattle.std.specs.Fmt.{decimal}
use Rattle.map_history.specs.Columns.{may_stand, may_stand_later}
use Rattle.map_history.specs.Map.{Pair}
use Rattle.map_history.specs.Operation.{Ask, Scan}
use Rattle.map_history.specs.Report.{Columns, ScanPiece, Answer, Scanned}
use Rattle.map_history.specs.Spelling.{column_words, row_line}
use Rattle.map_history.specs.Text.{point_text, line_of}
use Rattle.key_tuple.specs.Order.{FieldList}
use Rattle.script.specs.Grammar.{decimal_from, field_of, tuple_of}
use Rattle.audit_law.specs.TextLines.{head_text, pieces_of}
use Rattle.audit_law.specs.Verdicts.{IsRow}
use Rattle.line_forms.specs.LineForms.{Lines, Reading, IsLineForm, read_line, read_both, read_as}
use Rattle.line_forms.specs.Anew.{anew, words_of}
use Rattle.report_forms.specs.Limits.{is_row}
use Rattle.report_forms.specs.Lists.{in_front, read_each, numbers_from}
use Rattle.report_forms.specs.Answers.{columns_told, point_told, IsAnswerTo}

-- the row that the words of a line tell
abbrev pub row_told : List (List ℕ) → Option Pair
row_told (row ∷ key ∷ value ∷ []) = option_and_then
    (λ (k : FieldList). option_map (λ (v : List ℕ). record { key = k; value = v }) (field_of value))
    (tuple_of key)
row_told words = None

-- the line of a row
abbrev pub read_row : ℕ → Lines → Reading Pair
read_row fields =
    read_line (anew (λ (line : List ℕ). row_told (words_of line)) (is_row fields) row_line)

-- what the line of a piece says: its point, how many rows it has, and its columns
pub record PieceHead : Type 0 where
  pub point : ℕ
  pub count : ℕ
  pub columns : Columns

-- that line
abbrev pub piece_head_text : PieceHead → List ℕ
piece_head_text h =
    line_of (codes "piece" ∷ point_text h.point ∷ decimal h.count ∷ column_words h.columns)

-- what its words tell
abbrev pub piece_head_told : List (List ℕ) → Option PieceHead
piece_head_told (piece ∷ point ∷ count ∷ how ∷ note ∷ []) = Some (record {
  point = point_told point;
  count = decimal_from 0 count;
  columns = columns_told how note;
})
piece_head_told words = None

-- the turn of a piece in its scan: whether others came before it, how many come behind it, and how
-- many rows are left
pub record PieceTurn : Type 0 where
  pub is_later : Bool
  pub behind : ℕ
  pub left : ℕ

-- a last piece has the rows that are left, and one with others behind it has no more
abbrev pub has_rows : (behind left count : ℕ) → Bool
has_rows zero left count = count == left
has_rows (suc behind) left count = nat_le count left

-- so many rows are right in a turn
abbrev pub has_turn : PieceTurn → ℕ → Bool
has_turn turn count = has_rows turn.behind turn.left count

-- the columns of a piece are those of a first one or of a later one
abbrev pub stands_later : Bool → Columns → Bool
stands_later later columns = if later then may_stand_later columns else may_stand columns

-- a piece may say so in its turn
abbrev pub is_piece_head : PieceTurn → PieceHead → Bool
is_piece_head turn h = nat_lt h.point (2 ^ 64) && nat_lt h.count (2 ^ 64)
    && has_turn turn h.count && stands_later turn.is_later h.columns

-- the line of a piece
abbrev pub read_piece_head : PieceTurn → Lines → Reading PieceHead
read_piece_head turn = read_line (anew (λ (line : List ℕ). piece_head_told (words_of line))
    (is_piece_head turn) piece_head_text)

-- the line that a piece has
abbrev pub head_of_piece : ScanPiece → PieceHead
head_of_piece p = record { point = p.point; count = length p.rows; columns = p.columns }

-- a piece of a line and rows
abbrev pub piece_from : PieceHead × List Pair → ScanPiece
piece_from x = record { point = x.0.point; rows = x.1; columns = x.0.columns }

-- a piece with its rows
abbrev pub read_piece : ℕ → PieceTurn → Lines → Reading ScanPiece
read_piece fields turn text = read_as piece_from (read_both (read_piece_head turn)
    (λ (h : PieceHead). read_each (λ (n : ℕ). read_row fields) (numbers_from 0 h.count)) text)

-- the lines of a piece
abbrev pub piece_lines : ScanPiece → Lines
piece_lines p = piece_head_text (head_of_piece p) ∷ map row_line p.rows

-- a piece that may stand in its turn
pub record IsPieceOf (fields : ℕ) (turn : PieceTurn) (piece : ScanPiece) : Type 0 where
  pub head : is_piece_head turn (head_of_piece piece) ≡ true
  pub rows : AllByRecursion (IsRow fields) piece.rows

-- so many pieces, with the rows that are left
abbrev pub read_pieces : ℕ → Bool → ℕ → ℕ → Lines → Reading (List ScanPiece)
read_pieces fields later left zero text = Ok ([], text)
read_pieces fields later left (suc n) text = read_as in_front (read_both
    (read_piece fields (record { is_later = later; behind = n; left = left }))
    (λ (piece : ScanPiece). read_pieces fields true (left - length piece.rows) n) text)

-- pieces of a scan that are so many and have the rows that are left
abbrev pub ArePiecesOf : ℕ → Bool → ℕ → ℕ → List ScanPiece → Type 0
ArePiecesOf fields later left zero [] = left ≡ 0
ArePiecesOf fields later left zero (piece ∷ pieces) = ⊥
ArePiecesOf fields later left (suc n) [] = ⊥
ArePiecesOf fields later left (suc n) (piece ∷ pieces) =
    IsPieceOf fields (record { is_later = later; behind = n; left = left }) piece
    × ArePiecesOf fields true (left - length piece.rows) n pieces

-- the line of a scan's answer: how many pieces and how many rows
abbrev pub scan_text : ℕ → ℕ × ℕ → List ℕ
scan_text number counts =
    line_of (decimal number ∷ codes "scan" ∷ decimal counts.0 ∷ decimal counts.1 ∷ [])

-- the two numbers that its words tell
abbrev pub scan_told : List (List ℕ) → Option (ℕ × ℕ)
scan_told (number ∷ scan ∷ pieces ∷ rows ∷ []) = Some (decimal_from 0 pieces, decimal_from 0 rows)
scan_told words = None

-- without pieces there are no rows
abbrev pub has_pieces : (pieces rows : ℕ) → Bool
has_pieces zero rows = rows == 0
has_pieces (suc pieces) rows = true

-- they fit 64 bits, and there are pieces for the rows
abbrev pub are_counts : ℕ × ℕ → Bool
are_counts counts =
    nat_lt counts.0 (2 ^ 64) && nat_lt counts.1 (2 ^ 64) && has_pieces counts.0 counts.1

-- that line
abbrev pub read_scan_head : ℕ → Lines → Reading (ℕ × ℕ)
read_scan_head number = read_line (anew (λ (line : List ℕ). scan_told (words_of line)) are_counts
    (scan_text number))

-- the answer to a scan
abbrev pub read_scan : ℕ → ℕ → Lines → Reading Answer
read_scan fields number text = read_as (λ (x : (ℕ × ℕ) × List ScanPiece). Scanned x.1)
    (read_both (read_scan_head number)
    (λ (counts : ℕ × ℕ). read_pieces fields false counts.1 counts.0) text)

-- the lines of an answer
abbrev pub answer_lines : ℕ → Answer → Lines
answer_lines number answer = head_text number answer ∷ flat_map piece_lines (pieces_of answer)

-- the lines of a scan's answer are a form of lines
abbrev pub ScansAreRead : Type 0
ScansAreRead = (fields number : ℕ) (from : FieldList) (to : Option FieldList) (limit : ℕ)
    → 0 < fields → number < 2 ^ 64
    → IsLineForm (IsAnswerTo fields (Scan from to limit)) (answer_lines number)
    (read_scan fields number)
