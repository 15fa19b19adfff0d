-- Two lists that are joined place by place, up to a place.
use Rattle.std.proofs.Common.{◌≡◌, ℕ, zero, suc, ◌+◌, ◌<◌, List, [], ◌∷◌, ◌++◌, length, map, get_or, set, take, drop, refl, ap, ◌∙◌, arith}
use Rattle.std.specs.List.{zip}

module _ {X : Type 0} (f : X → X → X) where
  -- the two lists joined
  abbrev pub joined : List X → List X → List X
  joined xs ys = map (λ (p : X × X). f p.0 p.1) (zip xs ys)

  -- joined before a place, and the first list from it on
  abbrev pub joined_to : ℕ → List X → List X → List X
  joined_to i xs ys = joined (take i xs) (take i ys) ++ drop i xs

  -- the first list still stands at the place
  read_at : (xs ys : List X) (i : ℕ) (d : X) → i < length xs → i < length ys → get_or (joined_to i xs ys) i d ≡ get_or xs i d
  read_at [] ys i d below below' = absurd (omega arith)
  read_at (x ∷ xs) [] i d below below' = absurd (omega arith)
  read_at (x ∷ xs) (y ∷ ys) zero d below below' = refl
  read_at (x ∷ xs) (y ∷ ys) (suc i) d below below' = read_at xs ys i d (omega arith) (omega arith)

  write_at : (xs ys : List X) (i : ℕ) (d e : X) → i < length xs → i < length ys → set (joined_to i xs ys) i (f (get_or xs i d) (get_or ys i e)) ≡ joined_to (suc i) xs ys
  write_at [] ys i d e below below' = absurd (omega arith)
  write_at (x ∷ xs) [] i d e below below' = absurd (omega arith)
  write_at (x ∷ xs) (y ∷ ys) zero d e below below' = refl
  write_at (x ∷ xs) (y ∷ ys) (suc i) d e below below' = ap (λ (zs : List X). f x y ∷ zs) (write_at xs ys i d e (omega arith) (omega arith))

  -- so what is written there joins one place more
  pub join_more : (xs ys now : List X) (i : ℕ) (d e v : X) → i < length xs → i < length ys → now ≡ joined_to i xs ys → v ≡ f (get_or now i d) (get_or ys i e) → set now i v ≡ joined_to (i + 1) xs ys
  join_more xs ys now i d e v below below' is value =
      let next : suc i ≡ i + 1 = omega arith in
      let read = ap (λ (zs : List X). get_or zs i d) is ∙ read_at xs ys i d below below' in
      (λ k. set (is k) i ((value ∙ ap (λ (x : X). f x (get_or ys i e)) read) k)) ∙ (write_at xs ys i d e below below' ∙ ap (λ (n : ℕ). joined_to n xs ys) next)
