use Rattle.tree_cursor.proofs.pieces.PieceCall.piece_behind.Given as goal

abbrev pub ghost-piece_of_next : goal.ghost-piece_of_next
ghost-piece_of_next g a = g.low

abbrev pub ghost-piece_of : goal.ghost-piece_of
ghost-piece_of g a = g.low
