use Rattle.std.proofs.Common.{length, ap, ◌∙◌, sym}
use Rattle.key_tuple.proofs.PartsLemmas.{length-parts}
use Rattle.report_text.proofs.texts.Texts.count.Goals as goal

pub returns : goal.returns
returns c = c.len.ensures ∙ c.self.inside.ends.ok.0 ∙ sym (length-parts c.self.inside.bytes.items 0 c.self.inside.ends.items) ∙ ap length c.self.view_is
