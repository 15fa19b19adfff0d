use Rattle.std.proofs.Common.{◌≡◌, drop}
use Rattle.key_tuple.specs.Order.{tuple_cmp}
use Rattle.key_tuple.proofs.order.compare.Given as goal

-- the fields so far are equal, so those that are left decide
abbrev pub invariant-loop-i : goal.invariant-loop-i
invariant-loop-i g l = tuple_cmp (g.A.Fields.fields_of l.tuple) (g.B.Fields.fields_of l.key) ≡ tuple_cmp (drop l.i (g.A.Fields.fields_of l.tuple)) (drop l.i (g.B.Fields.fields_of l.key))
