use Rattle.tree_cursor.specs.Starts.{place_of}
use Rattle.engine_tests.proofs.walking.tell_piece.Given as goal

-- the piece begins where the cursor stands
abbrev pub ghost-next_piece : goal.ghost-next_piece
ghost-next_piece g a = place_of a.cursor.now
