-- The fields so far, and those that the rest of the word spells, are those of the whole word.
use Rattle.std.proofs.Common.{◌≤◌, length}
use Rattle.script.specs.Grammar.{tuple_of}
use Rattle.script.specs.Pieces.{pieces_left}
use Rattle.script.proofs.KeyFields.{AreSoFar}
use Rattle.script.proofs.rows.tuple_text.Given as goal

abbrev pub invariant-loop-text : goal.invariant-loop-text
invariant-loop-text l = AreSoFar (tuple_of l.word) l.bytes.items l.ends.items (pieces_left l.text-iterator) × (length l.ends.items ≤ l.most)
