use Rattle.std.proofs.Common.{◌≡◌, take, sum_by}
use Rattle.key_tuple.specs.Sizes.{field_size}
use Rattle.key_tuple.proofs.sizes.fields_size.Given as goal

-- the fields so far
abbrev pub invariant-loop-i : goal.invariant-loop-i
invariant-loop-i l = l.size ≡ sum_by field_size (take l.i l.tuple.fields)
