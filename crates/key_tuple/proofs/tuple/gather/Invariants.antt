use Rattle.std.proofs.Common.{◌≡◌, map, take}
use Rattle.key_tuple.proofs.tuple.gather.Given as goal

-- the fields so far are in the buffer
abbrev pub invariant-loop-field : goal.invariant-loop-field
invariant-loop-field l = l.buffer.fields ≡ map (λ f. f.items) (take l.field-index l.fields)
