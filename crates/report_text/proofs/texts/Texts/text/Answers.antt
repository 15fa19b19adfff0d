use Rattle.std.proofs.Common.{length, ap, arith}
use Rattle.key_tuple.proofs.PartsLemmas.{length-parts}
use Rattle.report_text.proofs.texts.Texts.text.Goals as goal

pub part-requires-clause-at : goal.part-requires-clause-at
part-requires-clause-at c = omega (arith, ap length c.deref-2.ensures.value, length-parts c.self.inside.bytes.items 0 c.self.inside.ends.items, ap length c.self.view_is, c.requires)
