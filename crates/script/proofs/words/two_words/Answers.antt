-- Two words, and no third.
use Rattle.std.proofs.Common.{ℕ, List, ◌∷◌, sym, ap, ◌∙◌}
use Rattle.script.specs.Grammar.{both}
use Rattle.script.proofs.words.two_words.Goals as goal

pub returns-in-None : goal.returns-in-None
returns-in-None c =
    let later = c.in_ok-second.ensures.steps ∙ ap (λ (ws : List (List ℕ)). c.in_ok-second.second.now ∷ ws) c.in-None.ensures.steps.0 in
    sym (ap both (c.in_ok-first.ensures.steps ∙ ap (λ (ws : List (List ℕ)). c.in_ok-first.first.now ∷ ws) later))
