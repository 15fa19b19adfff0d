use Rattle.std.proofs.Common.{◌≡◌, take, sum_by}
use Rattle.key_tuple.specs.Sizes.{field_size}
use Rattle.index_page.proofs.charges.fields_size.Given as goal

-- the fields so far
abbrev pub invariant-loop-i : goal.invariant-loop-i
invariant-loop-i g l = l.size ≡ sum_by field_size (take l.i (g.A.Fields.fields_of l.key))
