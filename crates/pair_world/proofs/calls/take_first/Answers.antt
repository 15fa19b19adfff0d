use Rattle.latch_law.specs.Views.{holding}
use Rattle.std.proofs.Common.{ap, ◌∙◌, set, Some, ℕ, ◌+◌}
use Rattle.pair_world.proofs.calls.take_first.Goals as goal

pub returns-clause-first : goal.returns-clause-first
returns-clause-first g c = let d = c.take.ensures.did in let n = c.requires.none in let x = d.value in
    (x, (x, ap (λ z. z.held) d.view ∙ ap (λ z. set z 0 (Some (holding x x))) n.0, d.values ∙ ap (λ z. set z 0 (Some x)) n.1, d.took.count ∙ ap (λ (k : ℕ). k + 1) n.2))
