-- The pieces so far, and those that are left, are what the lines are read to.
use Rattle.std.proofs.Common.{◌≡◌, ◌-◌, false, map}
use Rattle.report_forms.specs.Scans.{read_pieces}
use Rattle.report_reading.specs.Pieces.{piece_seen}
use Rattle.report_reading.proofs.LoopLemmas.{joined}
use Rattle.report_reading.proofs.pieces.read_pieces.Given as goal

abbrev pub invariant-loop-done : goal.invariant-loop-done
invariant-loop-done l = joined (map piece_seen l.pieces.items) (read_pieces l.fields l.is_later l.left (l.count - l.done) l.text) ≡ read_pieces l.fields false l.rows l.count l.fn.text
