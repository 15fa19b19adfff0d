-- The order of the blocks by their ages.
use Rattle.std.proofs.Common.{◌≡◌, ◌≢◌, ◌≤◌, ◌↔◌, IsTrue, nat_lt, nat_eq, rules, tests, ℕ, ◌+◌, ◌<◌, ◌⊎◌, inl, inr, List, get_or, subst, arith, Option, Some, None}
use Rattle.std.proofs.lemmas.Bool.{cases_eq}
use Rattle.block_ages.specs.Order.{ComesBefore, IsBehind, IsAhead}

module _ (ages : List ℕ) where
  -- no block comes before itself
  pub not_before_itself : (b : ℕ) → ComesBefore ages b b → ⊥
  not_before_itself b (inl less) = absurd (omega (arith, less))
  not_before_itself b (inr same) = absurd (omega (arith, same.1))

  -- one before another that is before a third is before that
  pub before_both : (a b c : ℕ) → ComesBefore ages a b → ComesBefore ages b c
      → ComesBefore ages a c
  before_both a b c (inl x) (inl y) = inl (omega (arith, x, y))
  before_both a b c (inl x) (inr y) = inl (omega (arith, x, y.0))
  before_both a b c (inr x) (inl y) = inl (omega (arith, x.0, y))
  before_both a b c (inr x) (inr y) = inr (omega (arith, x.0, y.0), omega (arith, x.1, y.1))

  -- two blocks are one, or one is before the other
  pub before_or_behind : (a b : ℕ) → ComesBefore ages a b ⊎ ((a ≡ b) ⊎ ComesBefore ages b a)
  before_or_behind a b = elim (less_or_more (get_or ages a 0) (get_or ages b 0)) [
    | inl x ↦ inl (inl x)
    | inr (inl x) ↦ elim (less_or_more a b) [
      | inl y ↦ inl (inr (x, y))
      | inr (inl y) ↦ inr (inl y)
      | inr (inr y) ↦ inr (inr (inr (omega (arith, x), y)))
    ]
    | inr (inr x) ↦ inr (inr (inl x))
  ]
    where
      less_or_more : (m n : ℕ) → (m < n) ⊎ ((m ≡ n) ⊎ (n < m))
      less_or_more m n = grind arith

  -- whether a block comes behind one is decided
  pub behind_or_not : (last : Option ℕ) (b : ℕ)
      → IsBehind ages last b ⊎ (IsBehind ages last b → ⊥)
  behind_or_not None b = inl tt
  behind_or_not (Some a) b = elim (before_or_behind a b) [
    | inl x ↦ inl x
    | inr (inl e) ↦ inr (λ x. not_before_itself b (subst (λ c. ComesBefore ages c b) e x))
    | inr (inr y) ↦ inr (λ x. not_before_itself a (before_both a b a x y))
  ]

  -- the first of the blocks below i that come behind one, if there is one
  pub record IsNextBelow (last : Option ℕ) (i b : ℕ) : Type 0 where
    pub below : b < i
    pub behind : IsBehind ages last b
    pub first : (c : ℕ) → c < i → IsBehind ages last c → ComesBefore ages c b → ⊥

  abbrev pub IsBest : Option ℕ → ℕ → Option ℕ → Type 0
  IsBest last i None = (c : ℕ) → c < i → IsBehind ages last c → ⊥
  IsBest last i (Some b) = IsNextBelow last i b

  module _ (last : Option ℕ) (i : ℕ) where
    -- a block that comes behind, and before the best so far, is the best
    pub better : (best : Option ℕ) → IsBest last i best → IsBehind ages last i
        → IsAhead ages i best → IsBest last (i + 1) (Some i)
    better None is behind ahead = record {
      below = omega arith;
      behind = behind;
      first = λ c below more less. elim (cases_eq c i) [
        | inl e ↦ not_before_itself i (subst (λ d. ComesBefore ages d i) e less)
        | inr ne ↦ is c (omega (arith, below, ne)) more
      ];
    }
    better (Some b) is behind ahead = record {
      below = omega arith;
      behind = behind;
      first = λ c below more less. elim (cases_eq c i) [
        | inl e ↦ not_before_itself i (subst (λ d. ComesBefore ages d i) e less)
        | inr ne ↦ is.first c (omega (arith, below, ne)) more (before_both c i b less ahead)
      ];
    }

    -- and one that doesn't, isn't
    pub no_better : (best : Option ℕ) → IsBest last i best
        → ((IsBehind ages last i → ⊥) ⊎ (IsAhead ages i best → ⊥)) → IsBest last (i + 1) best
    no_better None is not = λ c below more. elim (cases_eq c i) [
      | inl e ↦ never not (subst (IsBehind ages last) e more) tt
      | inr ne ↦ is c (omega (arith, below, ne)) more
    ]
      where
        never : ((IsBehind ages last i → ⊥) ⊎ (IsAhead ages i None → ⊥)) → IsBehind ages last i
            → IsAhead ages i None → ⊥
        never (inl n) a b = n a
        never (inr n) a b = n b
    no_better (Some b) is not = record {
      below = (let x = is.below in omega (arith, x));
      behind = is.behind;
      first = λ c below more less. elim (cases_eq c i) [
        | inl e ↦ never not (subst (IsBehind ages last) e more)
            (subst (λ d. ComesBefore ages d b) e less)
        | inr ne ↦ is.first c (omega (arith, below, ne)) more less
      ];
    }
      where
        never : ((IsBehind ages last i → ⊥) ⊎ (IsAhead ages i (Some b) → ⊥))
            → IsBehind ages last i → IsAhead ages i (Some b) → ⊥
        never (inl n) a b = n a
        never (inr n) a b = n b

-- of two blocks of one age the one with the lower number comes before the other
pub lower_number : (ages : List ℕ) (a b : ℕ) → get_or ages a 0 ≡ get_or ages b 0 → IsTrue (nat_lt a b) ↔ ComesBefore ages a b
lower_number ages a b same = (
  λ less. inr (same, search (rules, tests)),
  λ before. elim before [
    | inl lower ↦ absurd (omega (arith, lower, same))
    | inr less ↦ (let low = less.1 in search (rules, tests))
  ],
)

-- a lower age comes before a higher one, as the test says
pub lower_age : (ages : List ℕ) (a b : ℕ) → get_or ages a 0 < get_or ages b 0 → IsTrue (nat_lt (get_or ages a 0) (get_or ages b 0)) ↔ ComesBefore ages a b
lower_age ages a b lower = (λ is. inl lower, λ before. search (rules, tests))

-- a higher age does not come before a lower one, and they aren't equal
pub higher_age : (ages : List ℕ) (a b : ℕ) → get_or ages b 0 ≤ get_or ages a 0 → get_or ages a 0 ≢ get_or ages b 0 → IsTrue (nat_eq (get_or ages a 0) (get_or ages b 0)) ↔ ComesBefore ages a b
higher_age ages a b higher other = (
  λ is. (let same : get_or ages a 0 ≡ get_or ages b 0 = search (rules, tests) in absurd (other same)),
  λ before. elim before [
    | inl lower ↦ absurd (omega (arith, lower, higher))
    | inr same ↦ absurd (other same.0)
  ],
)
