use Rattle.std.proofs.Common.{refl, sym, ◌∙◌, arith}
use Rattle.hash_guess.proofs.leading.lead.Goals as goal

pub returns-then-is_cold-clause-err : goal.returns-then-is_cold-clause-err
returns-then-is_cold-clause-err g c = (sym c.is_cold.ensures ∙ c.if-is_cold.true, refl)

pub returns-then-from-need-clause-err : goal.returns-then-from-need-clause-err
returns-then-from-need-clause-err g c = (
  record {
    warm = sym c.is_cold.ensures ∙ c.if-is_cold.false;
    have_is = c.count-have.ensures;
    need_is = c.asked_fields-need.ensures;
    less = (let from = c.from.ensures in let few = c.if-from-need.true in omega (arith, from, few));
  },
  refl,
)
