use Rattle.std.proofs.Common.{◌≡◌, map, take}
use Rattle.key_tuple.specs.Order.{byte_count}
use Rattle.key_tuple.proofs.tuple.total_len.Given as goal

-- the bytes of the fields so far
abbrev pub invariant-loop-field : goal.invariant-loop-field
invariant-loop-field l = l.total ≡ byte_count (map (λ f. f.items) (take l.field-index l.fields))
