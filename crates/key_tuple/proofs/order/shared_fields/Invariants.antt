use Rattle.std.proofs.Common.{◌≡◌, ◌+◌, drop}
use Rattle.key_tuple.specs.Figures.{equal_fields}
use Rattle.key_tuple.proofs.order.shared_fields.Given as goal

-- the fields so far are equal
abbrev pub invariant-loop-i : goal.invariant-loop-i
invariant-loop-i g l = equal_fields (g.A.Fields.fields_of l.tuple) (g.B.Fields.fields_of l.key) ≡ l.i + equal_fields (drop l.i (g.A.Fields.fields_of l.tuple)) (drop l.i (g.B.Fields.fields_of l.key))
