-- The bytes so far, and those that the rest stands for, are those of the whole text behind the first ones.
use Rattle.std.proofs.Common.{◌≡◌, length}
use Rattle.script.specs.Grammar.{bytes_of, behind}
use Rattle.script.proofs.field.decode.Given as goal

abbrev pub invariant-text : goal.invariant-text
invariant-text l = behind l.fn.bytes.items (bytes_of l.text) ≡ behind l.bytes.items (bytes_of l.rest)

abbrev pub decreases-text : goal.decreases-text
decreases-text l = length l.rest
