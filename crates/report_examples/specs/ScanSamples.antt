-- A scan of three rows of two fields, in one piece and in two, and pieces that are no answer.
use Rattle.std.specs.Prelude.{None, List, [], ◌∷◌, codes}
use Rattle.key_tuple.specs.Order.{FieldList}
use Rattle.map_history.specs.declared.columns.How.TheVariants as how
use Rattle.map_history.specs.declared.columns.Note.TheVariants as note
use Rattle.map_history.specs.Map.{Pair, Map, MapChange, Put}
use Rattle.map_history.specs.Operation.{Make, Scan}
use Rattle.map_history.specs.Reply.{Done}
use Rattle.map_history.specs.Report.{Columns, ScanPiece, Scanned, AnswerLine, ChangeLine, unlearnt}
use Rattle.map_history.specs.LegalReport.{Line}
use Rattle.report_examples.specs.Samples.{line, told, made}

-- the key of the field ab and an empty field
abbrev pub ab : FieldList
ab = codes "ab" ∷ [] ∷ []

-- the key of the field a and a field of one zero byte
abbrev pub a_zero : FieldList
a_zero = codes "a" ∷ (0 ∷ []) ∷ []

-- the key of the field a and an empty field
abbrev pub a_empty : FieldList
a_empty = codes "a" ∷ [] ∷ []

-- put t ab,~ 1, put t a,%00 2, put t a,~ 3
abbrev pub three_puts : List MapChange
three_puts = Put ab (codes "1") ∷ Put a_zero (codes "2") ∷ Put a_empty (codes "3") ∷ []

-- the first row in the order of keys
abbrev pub low_row : Pair
low_row = record { key = a_empty; value = codes "3" }

-- the second row in the order of keys
abbrev pub middle_row : Pair
middle_row = record { key = a_zero; value = codes "2" }

-- the last row in the order of keys
abbrev pub high_row : Pair
high_row = record { key = ab; value = codes "1" }

-- the lane: the puts, then scan t ~~ ~~ 9
abbrev pub puts_and_scan : List Line
puts_and_scan = line 1 (Make (Put ab (codes "1"))) ∷ line 2 (Make (Put a_zero (codes "2")))
    ∷ line 3 (Make (Put a_empty (codes "3"))) ∷ line 4 (Scan [] None 9) ∷ []

-- the changes of the three puts
abbrev pub puts_made : List ChangeLine
puts_made = made 1 (Put ab (codes "1")) ∷ made 2 (Put a_zero (codes "2"))
    ∷ made 3 (Put a_empty (codes "3")) ∷ []

-- the answers, with these pieces
abbrev pub puts_and_scan_told : List ScanPiece → List AnswerLine
puts_and_scan_told pieces = told 1 Done 1 ∷ told 2 Done 2 ∷ told 3 Done 3
    ∷ record { line = 4; answer = Scanned pieces } ∷ []

-- the first piece of a scan, at the end of the list of changes
abbrev pub piece : Map → ScanPiece
piece rows = record { point = 3; rows = rows; columns = unlearnt }

-- the columns of a piece that goes on from the place where the cursor stood
abbrev pub by_clock : Columns
by_clock = record { how = how.ByClock; note = note.Dash }

-- a later piece, read there on
abbrev pub later_piece : Map → ScanPiece
later_piece rows = record { point = 3; rows = rows; columns = by_clock }

-- all three rows in one piece
abbrev pub in_one_piece : List ScanPiece
in_one_piece = piece (low_row ∷ middle_row ∷ high_row ∷ []) ∷ []

-- the first two rows, and then the last
abbrev pub in_two_pieces : List ScanPiece
in_two_pieces = piece (low_row ∷ []) ∷ later_piece (middle_row ∷ high_row ∷ []) ∷ []

-- the middle row is left out
abbrev pub row_left_out : List ScanPiece
row_left_out = piece (low_row ∷ high_row ∷ []) ∷ []

-- the last row is left out
abbrev pub last_left_out : List ScanPiece
last_left_out = piece (low_row ∷ middle_row ∷ []) ∷ []

-- the second row stands in both pieces
abbrev pub row_twice : List ScanPiece
row_twice = piece (low_row ∷ middle_row ∷ []) ∷ later_piece (middle_row ∷ high_row ∷ []) ∷ []

-- the piece of the last row comes first
abbrev pub other_way_round : List ScanPiece
other_way_round = piece (middle_row ∷ high_row ∷ []) ∷ later_piece (low_row ∷ []) ∷ []

-- the first two rows, which are all that a limit of two lets through
abbrev pub first_two : List ScanPiece
first_two = piece (low_row ∷ middle_row ∷ []) ∷ []
