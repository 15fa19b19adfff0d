-- Links and counts in a list that gets one record more.
use Rattle.std.proofs.Common.{◌≡◌, ℕ, ◌≤◌, List, [], ◌∷◌, ◌++◌, nat_eq, count_by, cond, refl, ◌∙◌, subst, arith, inl, inr}
use Rattle.std.proofs.lemmas.List.Sums.{sum_by-append, sum_by-cons}
use Rattle.std.proofs.lemmas.Bool.{cases_eq}
use Rattle.std.proofs.lemmas.Bool.Decides.{nat_tests}
use Rattle.std.specs.List.{AllByRecursion}
use Rattle.page_directory.specs.Groups.{AreLinked}

-- links that stay
pub linked_kept : (next next' : ℕ → ℕ) (xs : List ℕ) → AllByRecursion (λ h. next' h ≡ next h) xs → AreLinked next xs → AreLinked next' xs
linked_kept next next' [] same l = tt
linked_kept next next' (h ∷ []) same l = tt
linked_kept next next' (h ∷ k ∷ xs) same l = (same.0 ∙ l.0, linked_kept next next' (k ∷ xs) same.1 l.1)

-- r comes between p and n
pub linked_more : (next next' : ℕ → ℕ) (xs : List ℕ) (p r n : ℕ) (ys : List ℕ) → AllByRecursion (λ h. next' h ≡ next h) xs → AllByRecursion (λ h. next' h ≡ next h) (n ∷ ys)
    → next' p ≡ r → next' r ≡ n → AreLinked next ((xs ++ p ∷ []) ++ n ∷ ys) → AreLinked next' ((xs ++ p ∷ []) ++ r ∷ n ∷ ys)
linked_more next next' [] p r n ys a b e f l = (e, (f, linked_kept next next' (n ∷ ys) b l.1))
linked_more next next' (x ∷ []) p r n ys a b e f l = (a.0 ∙ l.0, linked_more next next' [] p r n ys tt b e f l.1)
linked_more next next' (x ∷ y ∷ xs) p r n ys a b e f l = (a.0 ∙ l.0, linked_more next next' (y ∷ xs) p r n ys a.1 b e f l.1)

-- a number that isn't there is counted no time
pub apart_counted : (p : ℕ) (xs : List ℕ) → AllByRecursion (λ k. k ≡ p → ⊥) xs → count_by (λ k. nat_eq k p) xs ≡ 0
apart_counted p [] a = refl
apart_counted p (x ∷ xs) a =
    let split = sum_by-cons (λ (k : ℕ). cond (nat_eq k p) 1 0) x xs in
    let differ = a.0 in
    let none = apart_counted p xs a.1 in
    grind (arith, nat_tests, split, differ, none)

-- one number more among some
pub once_more : (r : ℕ) (xs ys zs : List ℕ) → AllByRecursion (λ k. k ≡ r → ⊥) ((xs ++ ys) ++ zs) → ((h : ℕ) → count_by (λ k. nat_eq k h) ((xs ++ ys) ++ zs) ≤ 1)
    → (h : ℕ) → count_by (λ k. nat_eq k h) ((xs ++ r ∷ ys) ++ zs) ≤ 1
once_more r xs ys zs new once h =
    let f : ℕ → ℕ = λ k. cond (nat_eq k h) 1 0 in
    let a = sum_by-append f (xs ++ r ∷ ys) zs in
    let b = sum_by-append f xs (r ∷ ys) in
    let c = sum_by-cons f r ys in
    let d = sum_by-append f (xs ++ ys) zs in
    let e = sum_by-append f xs ys in
    let old = once h in
    elim (cases_eq r h) [
      | inl is ↦
          let zero_is : count_by (λ k. nat_eq k h) ((xs ++ ys) ++ zs) ≡ 0 = apart_counted h ((xs ++ ys) ++ zs) (subst (λ i. AllByRecursion (λ k. k ≡ i → ⊥) ((xs ++ ys) ++ zs)) is new) in
          let one : f r ≤ 1 = grind (arith, nat_tests) in
          omega arith
      | inr other ↦
          let none : f r ≡ 0 = grind (arith, nat_tests, other) in
          omega arith
    ]
