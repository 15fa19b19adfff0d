use Rattle.std.proofs.Common.{sym, ◌∙◌}
use Rattle.latch_space.proofs.slots.ObjectBox.into_object.Goals as goal

pub returns : goal.returns
returns g c = sym c.self.view_is ∙ (sym c.into_inner.ensures ∙ c.in-Some.is)
