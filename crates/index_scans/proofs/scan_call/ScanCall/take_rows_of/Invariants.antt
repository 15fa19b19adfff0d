use Rattle.key_tuple.specs.KeyPlace.{At}
use Rattle.index_scans.proofs.scan_call.ScanCall.take_rows_of.Given as goal

abbrev pub ghost-next_piece : goal.ghost-next_piece
ghost-next_piece g a = At a.self.now.from.now.fields
