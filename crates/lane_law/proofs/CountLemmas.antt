-- Numbers that ascend, are apart and cover what there is stand each at its place.
use Rattle.std.proofs.Common.{◌≡◌, ◌≢◌, ℕ, zero, suc, ◌+◌, ◌-◌, ◌<◌, ◌≤◌, Bool, true, false, cond, eqb, Some, List, [], ◌∷◌, length, get_or, refl, ap, sym, ◌∙◌, subst, arith}
use Rattle.std.proofs.lemmas.Bool.Decides.{nat_tests}
use Rattle.std.proofs.lemmas.List.Sums.{sum_by-cons}
use Rattle.std.proofs.lemmas.List.Sorted.{sum_by-IsPermutation}
use Rattle.std.specs.List.{slice_get, AllPairs, Contains, count_by}
use Rattle.std.specs.List.Sorted.{IsPermutation, IsNonDecreasingBy}
use mathlib.Core.Logic.{dite}
use native.Mathlib.Decide.{dec_lt}
use Rattle.list_facts.proofs.Places.{same_some, one_at, get_inside, get_there}
use Rattle.list_facts.proofs.Elements.{contains_head, contains_tail}
use Rattle.lane_law.proofs.PairLemmas.{all_pairs_head, all_pairs_tail}

module _ {X : Type 0} (number : X → ℕ) where
  -- no later element has the number of an earlier one
  abbrev pub AreApart : List X → Type 0
  AreApart xs = AllPairs (λ x y. number x ≢ number y) xs

  -- how many have the number
  abbrev times : ℕ → List X → ℕ
  times p xs = count_by (λ x. eqb (number x) p) xs

  none_times : (p : ℕ) (xs : List X) → ((x : X) → Contains xs x → number x ≢ p) → times p xs ≡ 0
  none_times p [] apart = refl
  none_times p (x ∷ xs) apart =
      let one : ℕ = 1 in
      let no : eqb (number x) p ≡ false = (let not_here = apart x (contains_head x xs) in grind (arith, nat_tests)) in
      let here : cond (eqb (number x) p) one 0 ≡ 0 = ap (λ b. cond b one 0) no in
      sum_by-cons (λ z. cond (eqb (number z) p) 1 0) x xs ∙ omega (arith, here, none_times p xs (λ y c. apart y (contains_tail x y xs c)))

  times_one : (p : ℕ) (xs : List X) → AreApart xs → times p xs ≤ 1
  times_one p [] apart = omega arith
  times_one p (x ∷ xs) apart = pick (eqb (number x) p) refl (times_one p xs (all_pairs_tail (λ a b. number a ≢ number b) x xs apart))
    where
      pick : (b : Bool) → eqb (number x) p ≡ b → times p xs ≤ 1 → times p (x ∷ xs) ≤ 1
      pick true e few =
          let one : ℕ = 1 in
          let is : number x ≡ p = grind (arith, nat_tests) in
          let here : cond (eqb (number x) p) one 0 ≡ 1 = ap (λ b. cond b one 0) e in
          omega (arith, here, sum_by-cons (λ z. cond (eqb (number z) p) 1 0) x xs, none_times p xs (λ y c same. all_pairs_head (λ a b. number a ≢ number b) x y xs apart c (is ∙ sym same)))
      pick false e few =
          let one : ℕ = 1 in
          let here : cond (eqb (number x) p) one 0 ≡ 0 = ap (λ b. cond b one 0) e in
          omega (arith, here, sum_by-cons (λ z. cond (eqb (number z) p) 1 0) x xs, few)

  some_times : (xs : List X) (i : ℕ) (x : X) → slice_get xs i ≡ Some x → 1 ≤ times (number x) xs
  some_times [] i x e = absurd cc
  some_times (y ∷ xs) zero x e =
      let one : ℕ = 1 in
      let yes : eqb (number y) (number x) ≡ true = (let same : number y ≡ number x = ap number (same_some y x e) in grind (arith, nat_tests)) in
      let here : cond (eqb (number y) (number x)) one 0 ≡ 1 = ap (λ b. cond b one 0) yes in
      omega (arith, here, sum_by-cons (λ z. cond (eqb (number z) (number x)) 1 0) y xs)
  some_times (y ∷ xs) (suc i) x e = omega (arith, some_times xs i x e, sum_by-cons (λ z. cond (eqb (number z) (number x)) 1 0) y xs)

  two_times : (xs : List X) (i j : ℕ) (x y : X) → i < j → slice_get xs i ≡ Some x → slice_get xs j ≡ Some y → number x ≡ number y → 2 ≤ times (number y) xs
  two_times [] i j x y lt ei ej same = absurd cc
  two_times (z ∷ xs) i zero x y lt ei ej same = absurd (omega arith)
  two_times (z ∷ xs) zero (suc j) x y lt ei ej same =
      let one : ℕ = 1 in
      let yes : eqb (number z) (number y) ≡ true = (let is : number z ≡ number y = ap number (same_some z x ei) ∙ same in grind (arith, nat_tests)) in
      let here : cond (eqb (number z) (number y)) one 0 ≡ 1 = ap (λ b. cond b one 0) yes in
      omega (arith, here, some_times xs j y ej, sum_by-cons (λ z. cond (eqb (number z) (number y)) 1 0) z xs)
  two_times (z ∷ xs) (suc i) (suc j) x y lt ei ej same = omega (arith, two_times xs i j x y (omega arith) ei ej same, sum_by-cons (λ z. cond (eqb (number z) (number y)) 1 0) z xs)

  -- what is apart stays apart in another order, and so rises where it ascends
  pub rises : (xs ys : List X) → AreApart xs → IsPermutation xs ys → IsNonDecreasingBy number ys → (i j : ℕ) (x y : X) → i < j → slice_get ys i ≡ Some x → slice_get ys j ≡ Some y → number x < number y
  rises xs ys apart same ascends i j x y lt ei ej =
      let few = times_one (number y) xs apart in
      let kept = sum_by-IsPermutation (λ z. cond (eqb (number z) (number y)) 1 0) xs ys same in
      let up : number x ≤ number y = subst (λ (p : X × X). number p.0 ≤ number p.1) (λ k. (reads ys i x x ei k, reads ys j y x ej k)) (ascends i j x (omega arith) (get_inside ys j y ej)) in
      let apart_there : number x ≢ number y = λ e. (let two = two_times ys i j x y lt ei ej e in omega arith) in
      omega (arith, up, apart_there)
    where
      reads : (l : List X) (i : ℕ) (a d : X) → slice_get l i ≡ Some a → get_or l i d ≡ a
      reads [] i a d e = absurd cc
      reads (z ∷ l) zero a d e = same_some z a e
      reads (z ∷ l) (suc i) a d e = reads l i a d e

  module _ (ys : List X) (top : ℕ) (up : (i j : ℕ) (x y : X) → i < j → slice_get ys i ≡ Some x → slice_get ys j ≡ Some y → number x < number y) (within : (i : ℕ) (x : X) → slice_get ys i ≡ Some x → (0 < number x) × (number x ≤ top))
      (cover : (n : ℕ) → n < top → (i : ℕ) × (x : X) × (slice_get ys i ≡ Some x) × (number x ≡ n + 1)) where
    at_least : (i : ℕ) (x : X) → slice_get ys i ≡ Some x → i + 1 ≤ number x
    at_least zero x e = let low = (within 0 x e).0 in omega arith
    at_least (suc i) x e =
        let below : i < length ys = (let room = get_inside ys (suc i) x e in omega arith) in
        let y = get_there ys i below in
        omega (arith, at_least i y.0 y.1, up i (suc i) y.0 x (omega arith) y.1 e)

    place_below : (bound n i : ℕ) (x : X) → n < bound → slice_get ys i ≡ Some x → number x ≡ n + 1 → i ≡ n
    place_below zero n i x lt e is = absurd (omega arith)
    place_below (suc bound) n i x lt e is = dite (dec_lt i n)
        (λ less. let high = (within i x e).1 in
        let c = cover i (omega arith) in
        let place : c.0 ≡ i = place_below bound i c.0 c.1 (omega arith) c.2 c.3 in
        let same : c.1 ≡ x = one_at ys i c.1 x (ap (slice_get ys) (sym place) ∙ c.2) e in
        let number_same : number c.1 ≡ number x = ap number same in
        let cover_is = c.3 in
        absurd (omega arith))
        (λ not_less. let low = at_least i x e in omega arith)

    -- the element n has the number n + 1
    pub numbered : (i : ℕ) (x : X) → slice_get ys i ≡ Some x → number x ≡ i + 1
    numbered i x e =
        let range = within i x e in
        let low = range.0 in
        let is : number x ≡ (number x - 1) + 1 = omega arith in
        let place : i ≡ number x - 1 = place_below (number x) (number x - 1) i x (omega arith) e is in
        omega arith

    -- and there are as many as numbers
    pub as_many : length ys ≡ top
    as_many = dite (dec_lt top (length ys))
        (λ more. let x = get_there ys top more in let high = (within top x.0 x.1).1 in let is = numbered top x.0 x.1 in absurd (omega arith))
        (λ not_more. dite (dec_lt (length ys) top)
        (λ less. let c = cover (length ys) less in let room = get_inside ys c.0 c.1 c.2 in let is = numbered c.0 c.1 c.2 in let cover_is = c.3 in absurd (omega arith))
        (λ not_less. omega arith))
