-- Pieces of scans that are read.
use Rattle.std.specs.Prelude.{◌&&◌, ◌^◌, nat_lt, Bool}
use Rattle.map_history.specs.Report.{ScanPiece}
use Rattle.report_forms.specs.Scans.{PieceHead, PieceTurn, has_turn, stands_later}
use Rattle.report_reading.specs.declared.scan_line.ReadHead.{ReadHead}
use Rattle.report_reading.specs.declared.scan_line.Turn.{Turn}
use Rattle.report_reading.specs.declared.pieces.ReadPiece.{ReadPiece}
use Rattle.report_reading.specs.Columns.{columns_seen}

-- the line of a piece, as a report has it
abbrev pub head_seen : ReadHead → PieceHead
head_seen head = record {
  point = head.point;
  count = head.count;
  columns = columns_seen head.columns;
}

-- the turn of a piece
abbrev pub turn_seen : Turn → PieceTurn
turn_seen turn = record { is_later = turn.is_later; behind = turn.behind; left = turn.left }

-- its numbers fit 64 bits
abbrev pub has_small_numbers : PieceHead → Bool
has_small_numbers h = nat_lt h.point (2 ^ 64) && nat_lt h.count (2 ^ 64)

-- it may stand in this turn
abbrev pub takes_turn : PieceTurn → PieceHead → Bool
takes_turn turn h = has_turn turn h.count && stands_later turn.is_later h.columns

-- a piece with its rows, as a report has it
abbrev pub piece_seen : ReadPiece → ScanPiece
piece_seen piece = record {
  point = piece.point;
  rows = piece.rows;
  columns = columns_seen piece.columns;
}
