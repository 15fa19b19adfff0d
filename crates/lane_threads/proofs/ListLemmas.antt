-- Places in lists.
use Rattle.std.proofs.Common.{◌≡◌, ◌⊎◌, ℕ, zero, suc, ◌+◌, ◌<◌, List, [], ◌∷◌, ◌++◌, length, get_or, ap, refl, sym, ◌∙◌, subst, inl, inr, arith, append_assoc}
use Rattle.std.specs.List.{AllByRecursion}
use mathlib.Core.Option.{some, some-ne-none}
use lib.ListN.{get_elem?}

-- what stands behind a list stands at its length
pub at_length : {X : Type 0} (xs : List X) (y : X) (ys : List X) → get_elem? (xs ++ y ∷ ys) (length xs) ≡ some y
at_length [] y ys = refl
at_length (x ∷ xs) y ys = at_length xs y ys

at_suc : {X : Type 0} (xs : List X) (y z : X) (zs : List X) → get_elem? (xs ++ y ∷ z ∷ zs) (suc (length xs)) ≡ some z
at_suc [] y z zs = refl
at_suc (x ∷ xs) y z zs = at_suc xs y z zs

-- and the next at the place after it
pub after_length : {X : Type 0} (xs : List X) (y z : X) (zs : List X) → get_elem? (xs ++ y ∷ z ∷ zs) (length xs + 1) ≡ some z
after_length xs y z zs = let same : suc (length xs) ≡ length xs + 1 = omega arith in subst (λ (n : ℕ). get_elem? (xs ++ y ∷ z ∷ zs) n ≡ some z) same (at_suc xs y z zs)

-- a place of two lists in a row is one of the first or one of the second
pub at_either : {X : Type 0} (xs ys : List X) (k : ℕ) (x : X) → get_elem? (xs ++ ys) k ≡ some x → (get_elem? xs k ≡ some x) ⊎ ((i : ℕ) × (k ≡ length xs + i) × (get_elem? ys i ≡ some x))
at_either [] ys k x e = inr (k, omega arith, e)
at_either (y ∷ xs) ys zero x e = inl e
at_either (y ∷ xs) ys (suc k) x e = pick (at_either xs ys k x e)
  where
    pick : (get_elem? xs k ≡ some x) ⊎ ((i : ℕ) × (k ≡ length xs + i) × (get_elem? ys i ≡ some x)) → (get_elem? xs k ≡ some x) ⊎ ((i : ℕ) × (suc k ≡ suc (length xs) + i) × (get_elem? ys i ≡ some x))
    pick (inl h) = inl h
    pick (inr h) = let is = h.1 in inr (h.0, omega arith, h.2)

-- a place that has something is within the list
pub within : {X : Type 0} (xs : List X) (k : ℕ) (x : X) → get_elem? xs k ≡ some x → k < length xs
within [] k x e = absurd (some-ne-none x (sym e))
within (y ∷ xs) zero x e = omega arith
within (y ∷ xs) (suc k) x e = let rest = within xs k x e in omega (arith, rest)

-- what the last of the first list is put before, once it is taken off
pub taken_off : {X : Type 0} (all xs xs' : List X) (y : X) (ys : List X) → all ≡ xs' ++ ys → xs' ≡ xs ++ y ∷ [] → all ≡ xs ++ y ∷ ys
taken_off all xs xs' y ys is last = is ∙ (ap (λ (zs : List _). zs ++ ys) last ∙ append_assoc xs (y ∷ []) ys)

-- what holds of all in a list holds of what stands at a place
pub all_at : {X : Type 0} (P : X → Type 0) (xs : List X) (i : ℕ) (d : X) → AllByRecursion P xs → i < length xs → P (get_or xs i d)
all_at P [] i d all below = absurd (omega arith)
all_at P (x ∷ xs) zero d all below = all.0
all_at P (x ∷ xs) (suc i) d all below = all_at P xs i d all.1 (omega arith)
