use Rattle.key_tuple.specs.KeyPlace.{End}
use Rattle.tree_cursor.proofs.pieces.PieceCall.empty_piece.Given as goal

abbrev pub ghost-say_piece : goal.ghost-say_piece
ghost-say_piece g a = (g.low, End)
