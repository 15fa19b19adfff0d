use Rattle.std.proofs.Common.{◌≡◌, drop}
use Rattle.key_tuple.specs.Order.{key_cmp}
use Rattle.key_tuple.proofs.order.compare_whole.Given as goal

-- the fields so far are equal, so those that are left decide
abbrev pub invariant-loop-i : goal.invariant-loop-i
invariant-loop-i g l = key_cmp (g.A.Fields.fields_of l.left) (g.B.Fields.fields_of l.right) ≡ key_cmp (drop l.i (g.A.Fields.fields_of l.left)) (drop l.i (g.B.Fields.fields_of l.right))
