-- Lists cut at a place, and what is known of a list in which no number stands twice.
use Rattle.std.proofs.Common.{◌≡◌, ℕ, zero, suc, ◌<◌, ◌≤◌, List, [], ◌∷◌, ◌++◌, length, nat_eq, count_by, cond, refl, ap, arith}
use Rattle.std.proofs.lemmas.List.Sums.{sum_by-append, sum_by-cons}
use Rattle.std.proofs.lemmas.Bool.Decides.{nat_tests}
use Rattle.std.specs.List.{AllByRecursion}
use Rattle.page_directory.specs.Groups.{AreLinked}

-- a list with so many before an element
pub record Cut {X : Type 0} (xs : List X) (k : ℕ) : Type 0 where
  pub low : List X
  pub here : X
  pub high : List X
  pub is : xs ≡ low ++ here ∷ high
  pub size : length low ≡ k

pub cut_at : {X : Type 0} (xs : List X) (k : ℕ) → k < length xs → Cut xs k
cut_at [] k h = absurd (omega arith)
cut_at (x ∷ xs) zero h = record { low = []; here = x; high = xs; is = refl; size = refl }
cut_at {X} (x ∷ xs) (suc k) h =
    let c = cut_at xs k (omega arith) in
    record { low = x ∷ c.low; here = c.here; high = c.high; is = ap (λ (ys : List X). x ∷ ys) c.is; size = omega (arith, c.size) }

-- a list without elements
pub none_left : {X : Type 0} (xs : List X) → length xs ≡ 0 → xs ≡ []
none_left [] e = refl
none_left (x ∷ xs) e = absurd (omega arith)

-- a number that is counted no time isn't there
pub none_counted : (p : ℕ) (xs : List ℕ) → count_by (λ k. nat_eq k p) xs ≡ 0 → AllByRecursion (λ k. k ≡ p → ⊥) xs
none_counted p [] e = tt
none_counted p (x ∷ xs) e =
    let split = sum_by-cons (λ (k : ℕ). cond (nat_eq k p) 1 0) x xs in
    (λ is. grind (arith, nat_tests, split), none_counted p xs (omega arith))

-- a number that is counted once isn't before or behind itself
pub counted_apart : (p : ℕ) (xs ys : List ℕ) → count_by (λ k. nat_eq k p) (xs ++ p ∷ ys) ≤ 1
    → (AllByRecursion (λ k. k ≡ p → ⊥) xs) × (AllByRecursion (λ k. k ≡ p → ⊥) ys)
counted_apart p xs ys once =
    let f : ℕ → ℕ = λ k. cond (nat_eq k p) 1 0 in
    let split = sum_by-append f xs (p ∷ ys) in
    let here = sum_by-cons f p ys in
    let one : f p ≡ 1 = grind (arith, nat_tests) in
    (none_counted p xs (omega arith), none_counted p ys (omega arith))

-- of two linked lists in a row, each
pub linked_right : (next : ℕ → ℕ) (xs ys : List ℕ) → AreLinked next (xs ++ ys) → AreLinked next ys
linked_right next [] ys l = l
linked_right next (x ∷ []) [] l = tt
linked_right next (x ∷ []) (y ∷ ys) l = l.1
linked_right next (x ∷ z ∷ xs) ys l = linked_right next (z ∷ xs) ys l.1

pub linked_left : (next : ℕ → ℕ) (xs ys : List ℕ) → AreLinked next (xs ++ ys) → AreLinked next xs
linked_left next [] ys l = tt
linked_left next (x ∷ []) ys l = tt
linked_left next (x ∷ z ∷ xs) ys l = (l.0, linked_left next (z ∷ xs) ys l.1)
