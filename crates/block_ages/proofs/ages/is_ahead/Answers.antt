use Rattle.std.proofs.Common.{◌↔◌, ℕ, Option, IsTrue, true, subst, sym, rules}
use Rattle.block_ages.specs.Order.{IsAhead}
use Rattle.block_ages.proofs.ages.is_ahead.Goals as goal

pub returns-in-Some : goal.returns-in-Some
returns-in-Some c =
    subst (λ (next : Option ℕ). IsTrue c.comes_before.result ↔ IsAhead c.args.ages.now c.args.block next) (sym c.in-Some.is) c.comes_before.ensures

pub returns-in-None : goal.returns-in-None
returns-in-None c =
    subst (λ (next : Option ℕ). IsTrue true ↔ IsAhead c.args.ages.now c.args.block next) (sym c.in-None.is) (λ x. tt, λ x. search rules)
