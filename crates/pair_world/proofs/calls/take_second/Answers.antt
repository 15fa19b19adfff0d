use Rattle.latch_law.specs.Views.{holding}
use Rattle.std.proofs.Common.{ap, ◌∙◌, set, Some, ℕ, ◌+◌}
use Rattle.pair_world.proofs.calls.take_second.Goals as goal

pub returns-clause-kept : goal.returns-clause-kept
returns-clause-kept g c a h = let d = c.take.ensures.did in let x = d.value in
    (x, (h.0, x, ap (λ z. z.held) d.view ∙ ap (λ z. set z 1 (Some (holding x x))) h.1, d.values ∙ ap (λ z. set z 1 (Some x)) h.2, d.took.count ∙ ap (λ (k : ℕ). k + 1) h.3))

pub returns-clause-both : goal.returns-clause-both
returns-clause-both g c = let h = c.requires.first in let k = returns-clause-kept g c h.0 h.1 in (h.0, k.0, k.1)
