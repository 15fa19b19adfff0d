use Rattle.std.proofs.Common.{sym, subst, ◌∙◌, IsSome}
use Rattle.forest_law.specs.declared.objects.Frame.{Frame}
use Rattle.buffer_pool.proofs.CallLemmas.{frame_has}
use Rattle.engine_tests.proofs.restored.has_high.Goals as goal

pub returns : goal.returns
returns c = λ h is. subst (λ (f : Frame). IsSome f.high)
    (c.frame.ensures h.frame h.frame
    (frame_has c.args.pass.now c.requires.known c.args.block h.frame h.knows))
    (sym c.is_some.ensures ∙ is)
