-- The text so far is the front of the name.
use Rattle.std.proofs.Common.{◌≡◌, take, string_bytes}
use Rattle.script.proofs.names.name_text.Given as goal

abbrev pub invariant-loop-byte : goal.invariant-loop-byte
invariant-loop-byte l = string_bytes l.text ≡ take l.byte-index l.name
