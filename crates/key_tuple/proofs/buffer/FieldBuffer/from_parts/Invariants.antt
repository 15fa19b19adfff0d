-- The offsets so far are those that were given.
use Rattle.std.proofs.Common.{◌≡◌, length, take}
use Rattle.key_tuple.specs.Limits.{FIELD_ROOM}
use Rattle.key_tuple.proofs.buffer.FieldBuffer.from_parts.Given as goal

abbrev pub invariant-loop-i : goal.invariant-loop-i
invariant-loop-i l = record {
  room : length l.offsets ≡ FIELD_ROOM;
  same : take l.i l.offsets ≡ take l.i l.ends;
}
