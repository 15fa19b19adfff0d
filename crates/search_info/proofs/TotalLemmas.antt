-- A pass with all numbers has tried all that was counted.
use Rattle.std.proofs.Common.{◌≡◌, ℕ, suc, zero, ◌+◌, ◌<◌, Bool, true, false, ◌&&◌, ◌==◌, cond, List, [], ◌∷◌, length, count_by, sym, refl, ap, ◌∙◌, arith, eq-eqb, ne_eqb}
use mathlib.Core.Logic.{dite}
use mathlib.Core.Option.{some}
use native.Mathlib.Decide.{ℕ_discrete}
use lib.ListN.{get_elem?}
use Rattle.search_info.specs.declared.knows.Entry.{Entry}
use Rattle.search_info.specs.declared.knows.Knows.{Knows}
use Rattle.search_info.specs.declared.knows.Try.{Try}
use Rattle.search_info.specs.History.{History}
use Rattle.search_info.specs.Rule.{FitsHistory, is_counted, times_counted, times_made, tries_counted}
use Rattle.search_info.specs.Passes.{HasAllNumbers}
use Rattle.search_info.proofs.PartLemmas.{count_cons}

-- the sum of f over the numbers below n
upto : ℕ → (ℕ → ℕ) → ℕ
upto zero f = 0
upto (suc n) f = upto n f + f n

upto_same : (n : ℕ) (f g : ℕ → ℕ) → ((k : ℕ) → k < n → f k ≡ g k) → upto n f ≡ upto n g
unfolding upto
upto_same zero f g same = refl
upto_same (suc n) f g same = let rest = upto_same n f g (λ k h. same k (omega arith)) in let last = same n (omega arith) in λ i. rest i + last i

upto_zero : (n : ℕ) (f : ℕ → ℕ) → ((k : ℕ) → k < n → f k ≡ 0) → upto n f ≡ 0
unfolding upto
upto_zero zero f none = refl
upto_zero (suc n) f none = let rest = upto_zero n f (λ k h. none k (omega arith)) in let last = none n (omega arith) in omega arith

upto_sum : (n : ℕ) (f g : ℕ → ℕ) → upto n (λ k. f k + g k) ≡ upto n f + upto n g
unfolding upto
upto_sum zero f g = refl
upto_sum (suc n) f g = let rest = upto_sum n f g in omega arith

-- one number below n is met once
upto_one : (n b : ℕ) → b < n → upto n (λ k. cond (b == k) 1 0) ≡ 1
unfolding upto
upto_one zero b h = absurd (omega arith)
upto_one (suc n) b h = dite (ℕ_discrete b n)
    (λ is. ap (λ (r : ℕ). r + cond (b == n) 1 0) (upto_zero n (λ k. cond (b == k) 1 0) (λ k l. ap (λ (t : Bool). cond t 1 0) (ne_eqb b k (λ e. omega arith)))) ∙ ap (λ (t : Bool). 0 + cond t 1 0) (eq-eqb b n is))
    (λ isnt. ap (λ (r : ℕ). r + cond (b == n) 1 0) (upto_one n b (omega arith)) ∙ ap (λ (t : Bool). 1 + cond t 1 0) (ne_eqb b n isnt))

-- things with numbers below n, counted number by number
by_numbers : {X : Type 0} (p : X → Bool) (by : X → ℕ) (n : ℕ) (xs : List X) → ((j : ℕ) (x : X) → get_elem? xs j ≡ some x → by x < n) → count_by p xs ≡ upto n (λ k. count_by (λ x. p x && (by x == k)) xs)
by_numbers p by n [] few = sym (upto_zero n (λ k. 0) (λ k h. refl))
by_numbers p by n (x ∷ xs) few = count_cons p x xs ∙ ((λ i. once (p x) i + by_numbers p by n xs (λ j y at. few (suc j) y at) i) ∙ (sym (upto_sum n (λ k. cond (p x && (by x == k)) 1 0) (λ k. count_by (λ y. p y && (by y == k)) xs))
    ∙ upto_same n _ _ (λ k h. sym (count_cons (λ y. p y && (by y == k)) x xs))))
  where
    once : (b : Bool) → cond b 1 0 ≡ upto n (λ k. cond (b && (by x == k)) 1 0)
    once true = sym (upto_one n (by x) (few 0 x refl))
    once false = sym (upto_zero n (λ k. 0) (λ k h. refl))

count_all : {X : Type 0} (xs : List X) → count_by (λ _. true) xs ≡ length xs
count_all [] = refl
count_all (x ∷ xs) = let one = count_cons (λ _. true) x xs in let rest = count_all xs in omega arith

-- the counted tries of an index are as many as its events
pub all_tried : (lists : History) (v : Knows) (i : ℕ) (xs : List Entry) → FitsHistory lists v → HasAllNumbers v → get_elem? lists i ≡ some xs → tries_counted i v.tries ≡ length xs
all_tried lists v i xs f all list = let n : ℕ = v.opening.passes in
    by_numbers (λ (q : Try). is_counted q.fate && (q.index == i)) (λ q. q.by) n v.tries (λ j q at. let mine = f.mine j q at in let end = all.1 in omega arith)
    ∙ (upto_same n (λ k. times_counted i k v.tries) (λ k. times_made k xs) (λ k h. f.once i k xs list (let low = all.0 in omega arith) (let end = all.1 in omega arith))
    ∙ (sym (by_numbers (λ (e : Entry). true) (λ e. e.by) n xs (λ j e at. f.history.makers i j e (xs, list, at))) ∙ count_all xs))
