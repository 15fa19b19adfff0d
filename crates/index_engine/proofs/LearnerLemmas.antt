-- The numbers of fields that the learner has of its indexes.
use Rattle.std.proofs.Common.{◌≡◌, ◌<◌, ◌≤◌, ℕ, zero, suc, List, [], ◌∷◌, length, map, sym, ap, subst, ◌∙◌, refl, arith, replicate}
use Rattle.std.specs.List.{All, zip}
use Rattle.std.proofs.lemmas.List.{length-map}
use mathlib.Core.Option.{some, some-injective, some-ne-none}
use lib.ListN.{get_elem?}
use Rattle.key_tuple.specs.declared.TheConstants.{MAX_FIELDS}
use Rattle.learning.specs.Opening.{opening_info}
use Rattle.search_info.specs.declared.knows.Opening.{Opening}
use Rattle.search_info.specs.declared.learner.Learner.{Learner}
use Rattle.search_info.specs.History.{Start, IsStart, AreStarts}
use Rattle.search_info.specs.Passes.{opening, HasUnique}
use Rattle.index_law.specs.Shape.{Shape}
use Rattle.forest_law.specs.State.{fields_for, or_zero}
use Rattle.index_engine.specs.Learners.{KnowsFields, nothing_learnt}

-- the learner begins with these numbers of fields
first_fields : (fields : List ℕ)
    → map (λ (s : Start). s.1) (zip (replicate (length fields) opening_info) fields) ≡ fields
first_fields [] = refl
first_fields (n ∷ fields) = ap (λ z. n ∷ z) (first_fields fields)

-- an index of so many fields may begin so
start_here : (n : ℕ) → (1 ≤ n) × (n ≤ MAX_FIELDS) → IsStart (opening_info, n)
start_here n may = record {
  some = may.0;
  few = may.1;
  info = record {
    asks = may.0;
    fits = record {
      potential = omega arith;
      analysis = omega arith;
      fields = omega arith;
      bytes = omega arith;
      events = omega arith;
    };
  };
}

-- and so each index may
pub starts_all : (fields : List ℕ) → All (λ n. (1 ≤ n) × (n ≤ MAX_FIELDS)) fields
    → AreStarts (zip (replicate (length fields) opening_info) fields)
starts_all [] all i s at = absurd (some-ne-none s (sym at))
starts_all (n ∷ fields) all zero s at =
    subst IsStart (some-injective (opening_info, n) s at) (start_here n (all 0 0 (omega arith)))
starts_all (n ∷ fields) all (suc i) s at =
    starts_all fields (λ j d below. all (suc j) d (omega (arith, below))) i s at

-- the element at a place, with its second part
at_place : (starts : List Start) (i : ℕ) → i < length (map (λ (s : Start). s.1) starts)
    → (s : Start) × (get_elem? starts i ≡ some s)
    × (s.1 ≡ or_zero (get_elem? (map (λ (s : Start). s.1) starts) i))
at_place [] i below = absurd (omega (arith, below))
at_place (s ∷ starts) zero below = (s, refl, refl)
at_place (s ∷ starts) (suc i) below = at_place starts i (omega (arith, below))

-- the learner has each index's number of fields
pub has_unique : (learner : Learner) (shape : Shape) (i : ℕ) → KnowsFields learner shape
    → i < shape.indexes → HasUnique learner i (fields_for shape i)
has_unique learner shape i knows below =
    let here = at_place (opening learner).starts i
    (subst (λ z. i < length z) (sym knows.fields) (let all = knows.all in omega (arith, all, below))) in
    (here.0, here.1, here.2 ∙ ap (λ z. or_zero (get_elem? z i)) knows.fields)

-- so does one that was opened for them
pub knows_first : (learner : Learner) (shape : Shape) (fields : List ℕ) (passes : ℕ)
    → opening learner ≡ (nothing_learnt fields passes).opening → shape.fields ≡ fields
    → shape.indexes ≡ length fields → KnowsFields learner shape
knows_first learner shape fields passes opened are many = record {
  fields = ap (λ (o : Opening). map (λ (s : Start). s.1) o.starts) opened
      ∙ (first_fields fields ∙ sym are);
  all = ap (λ z. length z) are ∙ sym many;
}

-- and each index is one of the learner's
pub has_start : (learner : Learner) (shape : Shape) (i : ℕ) → KnowsFields learner shape
    → i < shape.indexes → i < length (opening learner).starts
has_start learner shape i knows below =
    let many = ap (λ z. length z) knows.fields in let all = knows.all in
    omega (arith, many, all, below, length-map (opening learner).starts (λ (s : Start). s.1))
