-- Items that are added one behind the other.
use Rattle.std.proofs.Common.{◌≡◌, ◌⊎◌, inl, inr, ℕ, ◌+◌, ◌<◌, ◌≤◌, [], ◌∷◌, ◌++◌, List, length, length-append, sym, ap, subst, ◌∙◌, arith}
use Rattle.std.proofs.lemmas.Bool.{cases_lt}
use mathlib.Core.Option.{some}
use lib.ListN.{get_elem?}
use Rattle.atomic_table.proofs.Lists.{at_longer, at_last}
use Rattle.forest_law.specs.Opening.{AddsEach}

module _ {X : Type 0} (old : List X) (made : ℕ → X) where
  pub adds_none : AddsEach old old 0 made
  adds_none = record {
    counted = omega arith;
    kept = λ k x at. at;
    each = λ i low. absurd (omega (arith, low));
  }

  -- one item more
  pub adds_one : (new more : List X) (n : ℕ) (x : X) → AddsEach old new n made → x ≡ made n
      → more ≡ new ++ x ∷ [] → AddsEach old more (n + 1) made
  adds_one new more n x adds is pushed = record {
    counted = (let count = adds.counted in let size = ap length pushed in
        omega (arith, count, size, length-append new (x ∷ [])));
    kept = λ k y at. ap (λ z. get_elem? z k) pushed
        ∙ at_longer new (x ∷ []) k y (adds.kept k y at);
    each = λ i low. ap (λ z. get_elem? z (length old + i)) pushed ∙ at_number i low (cases_lt i n);
  }
    where
      at_number : (i : ℕ) → i < n + 1 → (i < n) ⊎ (n ≤ i)
          → get_elem? (new ++ x ∷ []) (length old + i) ≡ some (made i)
      at_number i low (inl less) = at_longer new (x ∷ []) (length old + i) (made i) (adds.each i less)
      at_number i low (inr most) = let same : i ≡ n = omega (arith, low, most) in
          let count = adds.counted in
          at_last new x (length old + i) (omega (arith, count, same))
          ∙ ap some (is ∙ ap made (sym same))

  -- a count that came to its end is the end
  pub adds_all : (new : List X) (n last end : ℕ) → AddsEach old new n made → n ≤ last → last ≤ n
      → last ≡ end → AddsEach old new end made
  adds_all new n last end adds within past is =
      subst (λ m. AddsEach old new m made) (omega (arith, within, past, is)) adds
