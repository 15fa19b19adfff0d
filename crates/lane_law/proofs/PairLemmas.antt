-- Pairs of a list's elements, an earlier and a later one.
use Rattle.std.proofs.Common.{◌≡◌, ℕ, zero, suc, ◌<◌, Some, List, [], ◌∷◌, ◌++◌, length, get_or, refl, ap, sym, ◌∙◌, subst, ⊎_elim, arith}
use Rattle.std.proofs.lemmas.List.Elements.{Contains-append_right, Contains-append_cases, Contains-get_or}
use Rattle.std.specs.List.{slice_get, AllPairs, Contains, flat_map}
use Rattle.list_facts.proofs.Places.{same_some}
use Rattle.list_facts.proofs.Elements.{contains_none, contains_head, contains_tail, contains_cases, contains_get, flat_contains, flat_from}

module _ {X : Type 0} where
  -- pairs of a list with one element more in front, and of two lists joined
  pub all_pairs_tail : (R : X → X → Type 0) (x : X) (xs : List X) → AllPairs R (x ∷ xs) → AllPairs R xs
  all_pairs_tail R x xs all i j d lt below = all (suc i) (suc j) d (omega arith) (omega arith)

  pub all_pairs_head : (R : X → X → Type 0) (x y : X) (xs : List X) → AllPairs R (x ∷ xs) → Contains xs y → R x y
  all_pairs_head R x y xs all c = let k : ℕ = c.0 in let below : k < length xs = c.1 in subst (R x) c.2 (all 0 (suc k) y (omega arith) (omega arith))

  pub all_pairs_cons : (R : X → X → Type 0) (x : X) (xs : List X) → ((y : X) → Contains xs y → R x y) → AllPairs R xs → AllPairs R (x ∷ xs)
  all_pairs_cons R x xs head tail zero zero d lt below = absurd (omega arith)
  all_pairs_cons R x xs head tail zero (suc j) d lt below = head (get_or xs j d) (Contains-get_or xs j d (omega arith))
  all_pairs_cons R x xs head tail (suc i) zero d lt below = absurd (omega arith)
  all_pairs_cons R x xs head tail (suc i) (suc j) d lt below = tail i j d (omega arith) (omega arith)

  pub all_pairs_append : (R : X → X → Type 0) (xs ys : List X) → AllPairs R xs → AllPairs R ys → ((x y : X) → Contains xs x → Contains ys y → R x y) → AllPairs R (xs ++ ys)
  all_pairs_append R [] ys first second across = second
  all_pairs_append R (x ∷ xs) ys first second across = all_pairs_cons R x (xs ++ ys)
      (λ y c. ⊎_elim (λ (l : Contains xs y). all_pairs_head R x y xs first l) (λ (r : Contains ys y). across x y (contains_head x xs) r) (Contains-append_cases xs ys y c))
      (all_pairs_append R xs ys (all_pairs_tail R x xs first) second (λ a b l r. across a b (contains_tail x a xs l) r))

  pub all_pairs_none : (R : X → X → Type 0) → AllPairs R []
  all_pairs_none R i j d lt below = absurd (omega arith)

  pub all_pairs_one : (R : X → X → Type 0) (x : X) → AllPairs R (x ∷ [])
  all_pairs_one R x i j d lt below = absurd (omega arith)

  -- pairs across the two parts of a list
  pub all_pairs_across : (R : X → X → Type 0) (xs ys : List X) (x y : X) → AllPairs R (xs ++ ys) → Contains xs x → Contains ys y → R x y
  all_pairs_across R [] ys x y all l r = absurd (contains_none x l)
  all_pairs_across R (z ∷ xs) ys x y all l r = ⊎_elim
      (λ (e : z ≡ x). subst (λ a. R a y) e (all_pairs_head R z y (xs ++ ys) all (Contains-append_right xs ys y r)))
      (λ (c : Contains xs x). all_pairs_across R xs ys x y (all_pairs_tail R z (xs ++ ys) all) c r)
      (contains_cases z x xs l)

  pub all_pairs_right : (R : X → X → Type 0) (xs ys : List X) → AllPairs R (xs ++ ys) → AllPairs R ys
  all_pairs_right R [] ys all = all
  all_pairs_right R (z ∷ xs) ys all = all_pairs_right R xs ys (all_pairs_tail R z (xs ++ ys) all)

  -- in a list whose numbers ascend one number is of one element
  pub ascending_once : (number : X → ℕ) (xs : List X) (i j : ℕ) (x y : X) → AllPairs (λ a b. number a < number b) xs → number x ≡ number y → slice_get xs i ≡ Some x → slice_get xs j ≡ Some y → x ≡ y
  ascending_once number [] i j x y up same ei ej = absurd cc
  ascending_once number (z ∷ xs) zero zero x y up same ei ej = sym (same_some z x ei) ∙ same_some z y ej
  ascending_once number (z ∷ xs) zero (suc j) x y up same ei ej =
      let first : number z ≡ number x = ap number (same_some z x ei) in
      let less = all_pairs_head (λ a b. number a < number b) z y xs up (contains_get xs j y ej) in
      absurd (omega arith)
  ascending_once number (z ∷ xs) (suc i) zero x y up same ei ej =
      let first : number z ≡ number y = ap number (same_some z y ej) in
      let less = all_pairs_head (λ a b. number a < number b) z x xs up (contains_get xs i x ei) in
      absurd (omega arith)
  ascending_once number (z ∷ xs) (suc i) (suc j) x y up same ei ej = ascending_once number xs i j x y (all_pairs_tail (λ a b. number a < number b) z xs up) same ei ej

module _ {X A : Type 0} (f : X → List A) where
  -- pairs that come from different places
  pub flat_pairs : (R : A → A → Type 0) (xs : List X) (i j : ℕ) (x y : X) (a b : A) → i < j → slice_get xs i ≡ Some x → slice_get xs j ≡ Some y → Contains (f x) a → Contains (f y) b → AllPairs R (flat_map f xs) → R a b
  flat_pairs R [] i j x y a b lt ei ej ca cb all = absurd cc
  flat_pairs R (z ∷ xs) i zero x y a b lt ei ej ca cb all = absurd (omega arith)
  flat_pairs R (z ∷ xs) zero (suc j) x y a b lt ei ej ca cb all = all_pairs_across R (f z) (flat_map f xs) a b all (subst (λ k. Contains (f k) a) (sym (same_some z x ei)) ca) (flat_contains f xs j y b ej cb)
  flat_pairs R (z ∷ xs) (suc i) (suc j) x y a b lt ei ej ca cb all = flat_pairs R xs i j x y a b (omega arith) ei ej ca cb (all_pairs_right R (f z) (flat_map f xs) all)

  -- pairs of a list that is made of others: those within each and those across
  pub flat_all_pairs : (R : A → A → Type 0) (xs : List X) → ((i : ℕ) (x : X) → slice_get xs i ≡ Some x → AllPairs R (f x))
      → ((i j : ℕ) (x y : X) (a b : A) → i < j → slice_get xs i ≡ Some x → slice_get xs j ≡ Some y → Contains (f x) a → Contains (f y) b → R a b) → AllPairs R (flat_map f xs)
  flat_all_pairs R [] each across = all_pairs_none R
  flat_all_pairs R (z ∷ xs) each across = all_pairs_append R (f z) (flat_map f xs) (each 0 z refl) (flat_all_pairs R xs (λ i. each (suc i)) (λ i j x y a b lt. across (suc i) (suc j) x y a b (omega arith)))
      (λ a b l r. let h = flat_from f xs b r in across 0 (suc h.0) z h.1 a b (omega arith) refl h.2 l h.3)
