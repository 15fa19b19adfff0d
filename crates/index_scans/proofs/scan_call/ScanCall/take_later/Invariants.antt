use Rattle.tree_cursor.specs.Starts.{place_of}
use Rattle.index_scans.proofs.scan_call.ScanCall.take_later.Given as goal

abbrev pub ghost-next_piece : goal.ghost-next_piece
ghost-next_piece g a = place_of a.cursor.now
