use Rattle.std.proofs.Common.{◌≡◌, take, fold, flat_map}
use Rattle.std.specs.Hash.{slice, u8}
use Rattle.key_tuple.proofs.tuple.TupleHash.hash.Given as goal

-- the fields so far are fed
abbrev pub invariant-loop-i : goal.invariant-loop-i
invariant-loop-i g l = l.state ≡ fold g.H.Hasher.write l.initial.state (flat_map (slice u8) (take l.i l.self.fields))
