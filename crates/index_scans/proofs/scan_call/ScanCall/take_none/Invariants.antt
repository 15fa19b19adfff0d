use Rattle.key_tuple.specs.KeyPlace.{At}
use Rattle.index_scans.proofs.scan_call.ScanCall.take_none.Given as goal

abbrev pub ghost-empty_piece : goal.ghost-empty_piece
ghost-empty_piece g a = At a.self.now.from.now.fields
