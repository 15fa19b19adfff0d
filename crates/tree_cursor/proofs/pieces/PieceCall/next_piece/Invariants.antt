use Rattle.tree_cursor.proofs.pieces.PieceCall.next_piece.Given as goal

abbrev pub ghost-piece_of : goal.ghost-piece_of
ghost-piece_of g a = g.low

abbrev pub ghost-piece_behind : goal.ghost-piece_behind
ghost-piece_behind g a = g.low
