-- Places of lists: of one that is numbered, one that is filtered, one of pairs, one of lists.
use Rattle.std.proofs.Common.{◌≡◌, ℕ, zero, suc, ◌+◌, ◌<◌, ◌≤◌, Bool, true, false, cond, Some, List, [], ◌∷◌, ◌++◌, length, take, get_or, refl, sym, ap, ◌∙◌, subst, arith, inl, inr, append_assoc}
use Rattle.std.proofs.lemmas.Bool.{cases_lt}
use Rattle.std.proofs.lemmas.List.{get_or_append_left, get_or-append-add, get_or-take, take-append-le, length-append}
use Rattle.std.proofs.lemmas.List.Sums.{length-filter}
use Rattle.std.proofs.lemmas.List.Elements.{recursion_from_All, All-from_recursion}
use Rattle.std.specs.List.{slice_get, filter, flat_map, enumerate_from, count_by, AllPairs, AllByRecursion}
use Rattle.list_facts.proofs.Places.{get_there, reads, elem_from_get, get_from_elem, filter_at}

-- one of a list
module _ {A : Type 0} where
  pub front_of : (xs : List A) (n : ℕ) (x : A) → slice_get xs n ≡ Some x → (rest : List A) × (xs ≡ take n xs ++ x ∷ rest)
  front_of [] n x e = absurd cc
  front_of (y ∷ ys) zero x e = let is : y ≡ x = cc in (ys, ap (λ (z : A). z ∷ ys) is)
  front_of (y ∷ ys) (suc n) x e = let h = front_of ys n x e in (h.0, ap (λ (zs : List A). y ∷ zs) h.1)

  enumerated : (k : ℕ) (xs : List A) (n : ℕ) (x : A) → slice_get xs n ≡ Some x → slice_get (enumerate_from k xs) n ≡ Some (k + n, x)
  enumerated k [] n x e = absurd cc
  enumerated k (y ∷ ys) zero x e = let is : y ≡ x = cc in let same : k ≡ k + 0 = omega arith in ap (λ (z : ℕ × A). Some z) (λ i. (same i, is i))
  enumerated k (y ∷ ys) (suc n) x e = let same : (k + 1) + n ≡ k + suc n = omega arith in enumerated (k + 1) ys n x e ∙ ap (λ (m : ℕ). Some (m, x)) same

  pub numbered : (xs : List A) (n : ℕ) (x : A) → slice_get xs n ≡ Some x → slice_get (enumerate_from 0 xs) n ≡ Some (n, x)
  numbered xs n x e = let same : 0 + n ≡ n = omega arith in enumerated 0 xs n x e ∙ ap (λ (m : ℕ). Some (m, x)) same

  none_left : (p : A → Bool) (xs : List A) → ((n : ℕ) (x : A) → slice_get xs n ≡ Some x → p x ≡ true → ⊥) → filter p xs ≡ []
  none_left p [] h = refl
  none_left p (x ∷ xs) h = go (p x) refl (none_left p xs (λ n y at t. h (suc n) y at t))
    where
      go : (b : Bool) → p x ≡ b → filter p xs ≡ [] → cond b (x ∷ filter p xs) (filter p xs) ≡ []
      go true e more = absurd (h 0 x refl e)
      go false e more = more

  pub one_left : (p : A → Bool) (xs : List A) (n : ℕ) (x : A) → slice_get xs n ≡ Some x → p x ≡ true → ((m : ℕ) (y : A) → slice_get xs m ≡ Some y → p y ≡ true → m ≡ n) → length (filter p xs) ≡ 1
  one_left p [] n x e t h = absurd cc
  one_left p (y ∷ ys) zero x e t h =
      let is : y ≡ x = cc in
      let none = none_left p ys (λ m z at u. absurd (omega (arith, h (suc m) z at u))) in
      rw (ap p is ∙ t, none) refl
  one_left p (y ∷ ys) (suc n) x e t h = go (p y) refl (one_left p ys n x e t (λ m z at v. omega (arith, h (suc m) z at v)))
    where
      go : (b : Bool) → p y ≡ b → length (filter p ys) ≡ 1 → length (cond b (y ∷ filter p ys) (filter p ys)) ≡ 1
      go true u more = absurd (omega (arith, h 0 y refl u))
      go false u more = more

  pub some_left : (p : A → Bool) (xs : List A) → count_by p xs ≡ 1 → (n : ℕ) × (x : A) × (slice_get xs n ≡ Some x) × (p x ≡ true)
  some_left p xs one =
      let long : 0 < length (filter p xs) = omega (arith, one, length-filter p xs) in
      let first = get_there (filter p xs) 0 long in
      let h = filter_at p xs 0 first.0 (elem_from_get (filter p xs) 0 first.0 first.1) in
      (h.1.0, first.0, get_from_elem xs h.1.0 first.0 h.1.1, h.0)

-- all before one in pairs, and pairs from that
pub pairs_before : {A : Type 0} (R : A → A → Type 0) (front rest : List A) (x : A) → AllPairs R (front ++ x ∷ rest) → AllByRecursion (λ (z : A). R z x) front
pairs_before R front rest x pairs = recursion_from_All (λ z. R z x) front (λ k d low.
    let long = length-append front (x ∷ rest) in
    let here = get_or_append_left front (x ∷ rest) d k low in
    let there = get_or-append-add front (x ∷ rest) 0 d in
    let at : length front + 0 ≡ length front = omega arith in
    let there' = ap (λ (n : ℕ). get_or (front ++ x ∷ rest) n d) (sym at) ∙ there in
    subst (λ (z : _). R (get_or front k d) z) there' (subst (λ (z : _). R z (get_or (front ++ x ∷ rest) (length front) d)) here (pairs k (length front) d low (omega (arith, long)))))

long : {A : Type 0} (j : ℕ) (ys : List A) (i : ℕ) → i < j → j < length ys → i < length (take j ys)
long zero ys i less low = absurd (omega (arith, less))
long (suc j) [] i less low = absurd (omega (arith, low))
long (suc j) (y ∷ ys) zero less low = omega arith
long (suc j) (y ∷ ys) (suc i) less low = omega (arith, long j ys i (omega (arith, less)) (omega (arith, low)))

pub pairs_from : {A : Type 0} (R : A → A → Type 0) (xs : List A) → ((n : ℕ) (x : A) → slice_get xs n ≡ Some x → AllByRecursion (λ (z : A). R z x) (take n xs)) → AllPairs R xs
pairs_from {A = A} R xs h i j d less low =
    let x = get_there xs j low in
    let is = reads xs j x.0 d (elem_from_get xs j x.0 x.1) in
    let all = All-from_recursion (λ z. R z x.0) (take j xs) (h j x.0 x.1) in
    let inside : i < length (take j xs) = long j xs i less low in
    subst (λ (z : A). R (get_or xs i d) z) (sym is) (subst (λ (z : A). R z x.0) (sym (sym (get_or-take j xs i d less))) (all i d inside))

-- the parts of a list of lists
pub flat_front : {X A : Type 0} (f : X → List A) (xs : List X) (n : ℕ) (x : X) → slice_get xs n ≡ Some x → (rest : List A) × (flat_map f xs ≡ flat_map f (take n xs) ++ (f x ++ rest))
flat_front f [] n x e = absurd cc
flat_front f (y ∷ ys) zero x e = let is : y ≡ x = cc in (flat_map f ys, ap (λ z. f z ++ flat_map f ys) is)
flat_front f (y ∷ ys) (suc n) x e = let h = flat_front f ys n x e in (h.0, ap (λ zs. f y ++ zs) h.1 ∙ sym (append_assoc (f y) (flat_map f (take n ys)) (f x ++ h.0)))

-- what stands at a place of them stands at a place of one of them
pub record IsPartAt {X A : Type 0} (f : X → List A) (xs : List X) (n : ℕ) (a : A) : Type 0 where
  pub k : ℕ
  pub x : X
  pub j : ℕ
  pub there : slice_get xs k ≡ Some x
  pub inside : slice_get (f x) j ≡ Some a
  pub front : take n (flat_map f xs) ≡ flat_map f (take k xs) ++ take j (f x)

pub flat_part : {X A : Type 0} (f : X → List A) (xs : List X) (n : ℕ) (a : A) → slice_get (flat_map f xs) n ≡ Some a → IsPartAt f xs n a
flat_part f [] n a e = absurd cc
flat_part f (x ∷ xs) n a e = elim (cases_lt n (length (f x))) [
  | inl low ↦ record { k = 0; x = x; j = n; there = refl; inside = sym (left (f x) (flat_map f xs) n low) ∙ e; front = take-append-le n (f x) (flat_map f xs) (omega (arith, low)) }
  | inr high ↦
      let past = right (f x) (flat_map f xs) n high in
      let h = flat_part f xs past.0 a (sym past.1.1 ∙ e) in
      record { k = suc h.k; x = h.x; j = h.j; there = h.there; inside = h.inside; front = past.1.0 ∙ (ap (λ zs. f x ++ zs) h.front ∙ sym (append_assoc (f x) (flat_map f (take h.k xs)) (take h.j (f h.x)))) }
]
  where
    left : {A : Type 0} (ys zs : List A) (n : ℕ) → n < length ys → slice_get (ys ++ zs) n ≡ slice_get ys n
    left [] zs n low = absurd (omega (arith, low))
    left (y ∷ ys) zs zero low = refl
    left (y ∷ ys) zs (suc n) low = left ys zs n (omega (arith, low))

    right : {A : Type 0} (ys zs : List A) (n : ℕ) → length ys ≤ n → (m : ℕ) × ((take n (ys ++ zs) ≡ ys ++ take m zs) × (slice_get (ys ++ zs) n ≡ slice_get zs m))
    right [] zs n high = (n, (refl, refl))
    right (y ∷ ys) zs zero high = absurd (omega (arith, high))
    right (y ∷ ys) zs (suc n) high = let h = right ys zs n (omega (arith, high)) in (h.0, (ap (λ l. y ∷ l) h.1.0, h.1.1))
