use Rattle.std.proofs.Common.{length, ap, arith}
use Rattle.tree_tests.proofs.rows.grow.Goals as goal

pub grow_value-requires-clause-longer : goal.grow_value-requires-clause-longer
grow_value-requires-clause-longer g c = λ key has.
    omega (arith, c.if-as_bytes-value_len.false, c.value_len.ensures key has, ap length c.as_bytes.ensures.bytes)
