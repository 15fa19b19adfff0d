-- Keys of one field.
use Rattle.std.proofs.Common.{◌≡◌, ◌<◌, ◌≤◌, ℕ, zero, suc, [], ◌∷◌, length, refl, sym, ap, subst, ◌∙◌, arith}
use lib.ListN.{get_elem?}
use Rattle.latch_law.specs.declared.knows.Terms.{Terms}
use Rattle.latch_space.specs.declared.space.SpaceOf.{SpaceOf}
use Rattle.latch_space.specs.Passes.{view}
use Rattle.latch_space.specs.Spaces.{IsPassOf}
use Rattle.index_law.specs.Answers.{MadeChange, Saying}
use Rattle.index_law.specs.Shape.{Shape}
use Rattle.forest_law.specs.declared.objects.Object.{Object}
use Rattle.forest_law.specs.State.{fields_for, or_zero}
use Rattle.forest_world.specs.Held.{TreePass, shape_of_pass}

at_both : (i : ℕ) → i < 2 → or_zero (get_elem? (1 ∷ 1 ∷ []) i) ≡ 1
at_both zero below = refl
at_both (suc zero) below = refl
at_both (suc (suc i)) below = absurd (omega (arith, below))

-- each of two indexes has keys of one field
pub one_field : (shape : Shape) → shape.fields ≡ 1 ∷ 1 ∷ [] → (i : ℕ) → i < 2
    → fields_for shape i ≡ 1
one_field shape fields i below = ap (λ xs. or_zero (get_elem? xs i)) fields ∙ at_both i below

module _ {Q : Type 0} (s : SpaceOf Shape Object MadeChange Saying Q) (p : TreePass)
    (own : IsPassOf s p) (fields : s.terms.shape.fields ≡ 1 ∷ 1 ∷ []) where
  -- so has the first one, as a pass knows it
  pub first_field : fields_for (shape_of_pass p) 0 ≡ 1
  first_field = ap (λ (t : Terms Shape). fields_for t.shape 0) own.1
      ∙ one_field s.terms.shape fields 0 (omega arith)

  -- a key of one field fits
  pub key_fits : (n : ℕ) → n ≡ 1 → n ≤ fields_for (shape_of_pass p) 0
  key_fits n one = omega (arith, one, first_field)
