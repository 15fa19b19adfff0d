-- One word, and no second.
use Rattle.std.proofs.Common.{ℕ, List, ◌∷◌, sym, ap, ◌∙◌}
use Rattle.std.specs.Prelude.{option_copied}
use Rattle.script.specs.Grammar.{only}
use Rattle.script.proofs.words.one_word.Goals as goal

pub returns-in_err-word : goal.returns-in_err-word
returns-in_err-word c = ap option_copied c.from_residual.ensures ∙ sym (ap only c.in_err-word.ensures.steps.0)

pub returns-in-None : goal.returns-in-None
returns-in-None c = sym (ap only (c.in_ok-word.ensures.steps ∙ ap (λ (ws : List (List ℕ)). c.in_ok-word.word.now ∷ ws) c.in-None.ensures.steps.0))

pub returns-in-Some : goal.returns-in-Some
returns-in-Some c = sym (ap only (c.in_ok-word.ensures.steps ∙ ap (λ (ws : List (List ℕ)). c.in_ok-word.word.now ∷ ws) c.in-Some.ensures.steps))
