use Rattle.std.proofs.Common.{◌≡◌, ◌∙◌, ◌<◌, ◌≤◌, ◌+◌, ◌++◌, ◌∷◌, [], ℕ, List, zero, suc, length, take, get_or, sym, subst, refl, ap, ap₂, arith}
use Rattle.std.proofs.Math.Numerals.{add-one}
use Rattle.std.proofs.lemmas.List.{take_all}
use Rattle.std.specs.List.{zip}
use Rattle.search_info.proofs.opens.pairs.Goals as goal

-- two lists side by side, each one longer
zip_more : {A B : Type 0} (xs : List A) (ys : List B) (n : ℕ) (x : A) (y : B) → n < length xs
    → n < length ys → zip (take n xs) (take n ys) ++ (get_or xs n x, get_or ys n y) ∷ []
    ≡ zip (take (suc n) xs) (take (suc n) ys)
zip_more [] ys n x y inside _ = absurd (omega (arith, inside))
zip_more (a ∷ xs) [] n x y _ inside = absurd (omega (arith, inside))
zip_more (a ∷ xs) (b ∷ ys) zero x y _ _ = refl
zip_more (a ∷ xs) (b ∷ ys) (suc n) x y inside beside = ap (λ l. (a, b) ∷ l)
    (zip_more xs ys n x y (omega (arith, inside)) (omega (arith, beside)))

-- so are pairs, when the next of both were pushed
pushed : {A B : Type 0} (xs : List A) (ys : List B) (n : ℕ) (x : A) (y : B) (ps qs : List (A × B))
    → n < length xs → n < length ys → ps ≡ zip (take n xs) (take n ys)
    → qs ≡ ps ++ (get_or xs n x, get_or ys n y) ∷ [] → qs ≡ zip (take (n + 1) xs) (take (n + 1) ys)
pushed xs ys n x y ps qs inside beside is new = new
    ∙ (ap (λ l. l ++ (get_or xs n x, get_or ys n y) ∷ []) is
    ∙ rw add-one (zip_more xs ys n x y inside beside))

pub loop-n-preserved : goal.loop-n-preserved
loop-n-preserved c = pushed c.args.first.now c.args.unique.now c.loop-n.n _ 0 c.loop-n.starts.items
    c.push.new.self.items c.loop-n-test.true
    (subst (λ k. c.loop-n.n < k) (sym c.requires) c.loop-n-test.true) c.loop-n.invariant
    c.in_ok-push.ensures.items

pub returns : goal.returns
returns c = let n = c.loop-n.n in c.loop-n.invariant
    ∙ ap₂ (λ xs ys. zip xs ys) (take_all n c.args.first.now c.loop-n-test.false)
    (take_all n c.args.unique.now (subst (λ k. k ≤ n) (sym c.requires) c.loop-n-test.false))
