-- What was said so far, and what the lines that are left say, is what the file says.
use Rattle.std.proofs.Common.{◌≡◌, ◌≤◌, ◌+◌, length}
use Rattle.script.specs.Pieces.{lines_left}
use Rattle.script.specs.Lane.{lane_from, lane_of}
use Rattle.script.specs.Views.{schema_text}
use Rattle.map_history.specs.Lines.{line_texts}
use Rattle.script.proofs.Whole.{after}
use Rattle.script.proofs.reading.read_lines.Given as goal

abbrev pub invariant-loop-line : goal.invariant-loop-line
invariant-loop-line l = record {
  told : lane_of (schema_text l.schema) l.bytes ≡ after (line_texts l.lines.items) (lane_from l.number (schema_text l.schema) (lines_left l.line-iterator));
  room : l.number + length (lines_left l.line-iterator) ≤ length l.bytes + 1;
}
