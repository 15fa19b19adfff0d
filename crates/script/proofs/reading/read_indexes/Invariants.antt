-- What the lines that are left make of the draft is what the file spells.
use Rattle.std.proofs.Common.{◌≡◌, ◌≤◌, ◌+◌, length}
use Rattle.script.specs.Pieces.{lines_left}
use Rattle.script.specs.Schema.{schema_from, schema_of}
use Rattle.script.specs.Views.{draft_view}
use Rattle.script.proofs.reading.read_indexes.Given as goal

abbrev pub invariant-loop-line : goal.invariant-loop-line
invariant-loop-line l = record {
  told : schema_from l.number (draft_view l.draft) (lines_left l.line-iterator) ≡ schema_of l.bytes;
  room : l.number + length (lines_left l.line-iterator) ≤ length l.bytes + 1;
}
