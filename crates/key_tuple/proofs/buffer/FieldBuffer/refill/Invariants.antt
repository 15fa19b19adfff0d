use Rattle.std.proofs.Common.{◌≡◌, ◌≤◌, take}
use Rattle.key_tuple.proofs.buffer.FieldBuffer.refill.Given as goal

-- the fields so far are in the buffer, which keeps its room
abbrev pub invariant-loop-i : goal.invariant-loop-i
invariant-loop-i g l = record { fields : l.self.fields ≡ take l.i (g.A.Fields.fields_of l.from); room : l.initial.self.room ≤ l.self.room }
