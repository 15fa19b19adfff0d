use Rattle.std.proofs.Common.{length, ap, arith}
use Rattle.key_tuple.proofs.PartsLemmas.{length-parts}
use Rattle.key_tuple.proofs.lent.LentFieldsFields.field.Goals as goal

pub part-requires-clause-at : goal.part-requires-clause-at
part-requires-clause-at c =
    let fields = length-parts c.self.inside.bytes.now 0 c.self.inside.ends.now in
    omega (arith, fields, ap length c.self.view_is, c.from.ensures, c.requires)
