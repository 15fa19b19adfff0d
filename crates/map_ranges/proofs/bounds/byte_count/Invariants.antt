use Rattle.std.proofs.Common.{◌≡◌, take}
use Rattle.key_tuple.specs.Order.{byte_count}
use Rattle.map_ranges.proofs.bounds.byte_count.Given as goal

-- the bytes of the fields so far
abbrev pub invariant-loop-i : goal.invariant-loop-i
invariant-loop-i l = l.total ≡ byte_count (take l.i l.tuple.fields)
