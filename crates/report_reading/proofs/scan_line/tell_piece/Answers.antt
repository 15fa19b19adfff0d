use Rattle.std.proofs.Common.{refl, sym, ◌∙◌}
use Rattle.script.specs.Pieces.{pieces_left}
use Rattle.report_forms.specs.Scans.{piece_head_told}
use Rattle.report_reading.specs.Pieces.{turn_seen}
use Rattle.report_reading.proofs.ToldLemmas.{turn_taken}
use Rattle.report_reading.proofs.scan_line.tell_piece.Goals as goal

pub returns : goal.returns
returns c = turn_taken (turn_seen c.args.turn) (piece_head_told (pieces_left c.args.words)) _ c.in-Some.ensures ∙ rw (sym c.if-not-may_take_turn.ensures) refl

pub returns-then-not-may_take_turn : goal.returns-then-not-may_take_turn
returns-then-not-may_take_turn c = turn_taken (turn_seen c.args.turn) (piece_head_told (pieces_left c.args.words)) _ c.in-Some.ensures ∙ rw (sym c.if-not-may_take_turn.ensures) refl
