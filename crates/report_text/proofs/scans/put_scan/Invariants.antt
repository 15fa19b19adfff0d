use Rattle.std.proofs.Common.{◌≡◌, ◌++◌, take, sum_by}
use Rattle.std.specs.List.{flat_map}
use Rattle.map_history.specs.declared.reply.Piece.{Piece}
use Rattle.map_history.specs.Spelling.{piece_lines}
use Rattle.scan_law.specs.ScanPieces.{scan_pieces}
use Rattle.report_text.proofs.scans.put_scan.Given as goal

-- the pieces so far are put, with their rows
abbrev pub invariant-loop-piece : goal.invariant-loop-piece
invariant-loop-piece l = record {
  next : l.next ≡ sum_by (λ (p : Piece). p.count) (take l.piece-index l.pieces);
  put : l.out.items ≡ l.initial.out.items
      ++ flat_map piece_lines (take l.piece-index (scan_pieces l.pieces l.rows));
}
