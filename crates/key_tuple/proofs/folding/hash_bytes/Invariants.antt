use Rattle.std.proofs.Common.{◌≡◌, take, fold}
use Rattle.key_tuple.specs.Fold.{hash_byte}
use Rattle.key_tuple.proofs.folding.hash_bytes.Given as goal

-- the bytes so far are hashed
abbrev pub invariant-loop-byte : goal.invariant-loop-byte
invariant-loop-byte l = l.hash ≡ fold hash_byte l.start (take l.byte-index l.bytes)
