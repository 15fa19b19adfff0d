use Rattle.index_page.specs.Refusals.{free_of, gaps_of, room_refusal}
use Rattle.index_page.specs.declared.error.PageError.{PageError}
use Rattle.std.proofs.Common.{◌≡◌, ℕ, Option, Some, IfSome, Result, Err, refl, inr, ap, sym, subst, ◌∙◌}
use Rattle.index_page.proofs.page.Page.enter.Goals as goal

-- what is refused is told
told : (T : Type 0) (o : Option PageError) (e : PageError) → o ≡ Some e → IfSome o (λ other. ◌≡◌ {A = Result T PageError} (Err e) (Err other))
told T o e is = subst (λ (p : Option PageError). IfSome p (λ other. ◌≡◌ {A = Result T PageError} (Err e) (Err other))) (sym is) refl

pub returns-in-Some-clause-refused : goal.returns-in-Some-clause-refused
returns-in-Some-clause-refused g c =
    told _ _ c.in-Some.refusal (ap (λ (n : ℕ). room_refusal n (free_of c.args.self.now) (gaps_of c.args.self.now)) (sym c.charge-need.ensures.charge) ∙ sym c.refusal.ensures.is ∙ c.in-Some.is)

pub returns-in-Some-clause-cause : goal.returns-in-Some-clause-cause
returns-in-Some-clause-cause g c =
    inr (ap (λ (n : ℕ). room_refusal n (free_of c.args.self.now) (gaps_of c.args.self.now)) (sym c.charge-need.ensures.charge) ∙ sym c.refusal.ensures.is ∙ c.in-Some.is)
