use Rattle.tree_cursor.proofs.pieces.PieceCall.piece_of.Given as goal

abbrev pub ghost-tell : goal.ghost-tell
ghost-tell g a = g.low
