use Rattle.std.proofs.Common.{length, ap, sym, ◌∙◌}
use Rattle.key_tuple.proofs.PartsLemmas.{length-parts}
use Rattle.key_tuple.proofs.lent.LentFieldsFields.count.Goals as goal

pub returns : goal.returns
returns c = sym (length-parts c.self.inside.bytes.now 0 c.self.inside.ends.now) ∙ ap length c.self.view_is
