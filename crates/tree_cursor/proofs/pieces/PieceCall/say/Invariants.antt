use Rattle.tree_cursor.proofs.pieces.PieceCall.say.Given as goal

abbrev pub ghost-say_piece : goal.ghost-say_piece
ghost-say_piece g a = g.range
