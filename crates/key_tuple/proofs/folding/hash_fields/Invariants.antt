use Rattle.std.proofs.Common.{◌≡◌, take, fold, flat_map}
use Rattle.key_tuple.specs.Fold.{hash_byte, with_length}
use Rattle.key_tuple.proofs.folding.hash_fields.Given as goal

-- the fields so far are hashed
abbrev pub invariant-loop-i : goal.invariant-loop-i
invariant-loop-i g l = l.hash ≡ fold hash_byte l.start (flat_map with_length (take l.i (g.A.Fields.fields_of l.fields)))
