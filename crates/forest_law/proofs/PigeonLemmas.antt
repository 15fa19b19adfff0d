-- Numbers that pass a test, each with a name of its own below a bound, are no more than the bound.
use Rattle.std.proofs.Common.{◌≡◌, ◌≢◌, ◌⊎◌, inl, inr, ℕ, zero, suc, ◌+◌, ◌<◌, ◌≤◌, ◌==◌, ◌&&◌, Bool, true, false, cond, refl, sym, ap, ◌∙◌, arith}
use Rattle.std.proofs.lemmas.Bool.{cases_eq, ne_eqb, eq-eqb}
use Rattle.tree_law.specs.PageBudget.{sum_to}

-- 1 where the test holds
abbrev pub one_if : (ℕ → Bool) → ℕ → ℕ
one_if p n = cond (p n) 1 0

-- where no number below k passes, the count is 0
none_pass : (p : ℕ → Bool) (k : ℕ) → ((n : ℕ) → n < k → p n ≡ true → ⊥)
    → sum_to (one_if p) k ≡ 0
none_pass p zero none = refl
none_pass p (suc k) none = let rest = none_pass p k (λ n less. none n (omega arith)) in
    go (p k) (none k (omega arith)) rest
  where
    go : (b : Bool) (never : b ≡ true → ⊥) → sum_to (one_if p) k ≡ 0
        → cond b 1 0 + sum_to (one_if p) k ≡ 0
    go true never rest = absurd (never refl)
    go false never rest = omega (arith, rest)

-- where no two pass, one does at most
one_passes : (p : ℕ → Bool) (k : ℕ)
    → ((n m : ℕ) → n < k → m < k → p n ≡ true → p m ≡ true → n ≡ m)
    → sum_to (one_if p) k ≤ 1
one_passes p zero one = omega arith
one_passes p (suc k) one = go (p k) refl
    (one_passes p k (λ n m less more. one n m (omega arith) (omega arith)))
  where
    go : (b : Bool) → p k ≡ b → sum_to (one_if p) k ≤ 1 → cond b 1 0 + sum_to (one_if p) k ≤ 1
    go true e rest = let none = none_pass p k (λ n less t.
        (let same = one n k (omega arith) (omega arith) t e in omega (arith, same, less))) in
        omega (arith, none)
    go false e rest = omega (arith, rest)

-- a test is passed no more often than two that share it out
shared_out : (p q r : ℕ → Bool) (k : ℕ)
    → ((n : ℕ) → cond (p n) 1 0 ≤ cond (q n) 1 0 + cond (r n) 1 0)
    → sum_to (one_if p) k ≤ sum_to (one_if q) k + sum_to (one_if r) k
shared_out p q r zero each = omega arith
shared_out p q r (suc k) each =
    let rest = shared_out p q r k each in let here = each k in omega (arith, rest, here)

module _ (p : ℕ → Bool) (name : ℕ → ℕ) (m : ℕ) where
  -- the test, and the number's name isn't m
  abbrev lower : ℕ → Bool
  lower n = p n && cond (name n == m) false true

  -- the test, and the number's name is m
  abbrev last : ℕ → Bool
  last n = p n && (name n == m)

  share_of : (a b : Bool) → cond a 1 0 ≤ cond (a && cond b false true) 1 0 + cond (a && b) 1 0
  share_of true true = omega arith
  share_of true false = omega arith
  share_of false b = omega arith

  both : (a b : Bool) → a && b ≡ true → (a ≡ true) × (b ≡ true)
  both true true e = (refl, refl)
  both true false e = absurd cc
  both false b e = absurd cc

  shared : (n : ℕ) → cond (p n) 1 0 ≤ cond (lower n) 1 0 + cond (last n) 1 0
  shared n = share_of (p n) (name n == m)

  passes_lower : (n : ℕ) → lower n ≡ true → p n ≡ true
  passes_lower n e = (both (p n) (cond (name n == m) false true) e).0

  passes_last : (n : ℕ) → last n ≡ true → p n ≡ true
  passes_last n e = (both (p n) (name n == m) e).0

  name_last : (n : ℕ) → last n ≡ true → name n ≡ m
  name_last n e = pick (cases_eq (name n) m) (both (p n) (name n == m) e).1
    where
      pick : (name n ≡ m) ⊎ (name n ≢ m) → name n == m ≡ true → name n ≡ m
      pick (inl is) t = is
      pick (inr isnt) t = let no = ne_eqb (name n) m isnt in absurd cc

  below_last : (n : ℕ) → name n < suc m → lower n ≡ true → name n < m
  below_last n less e =
      pick (cases_eq (name n) m) (both (p n) (cond (name n == m) false true) e).1
    where
      pick : (name n ≡ m) ⊎ (name n ≢ m) → cond (name n == m) false true ≡ true → name n < m
      pick (inl is) t = let yes = ap (λ b. cond b false true) (eq-eqb (name n) m is) in absurd cc
      pick (inr isnt) t = omega (arith, less, isnt)

-- numbers that pass the test have names of their own below m, so they are no more than m
pub pigeons : (p : ℕ → Bool) (name : ℕ → ℕ) (k m : ℕ)
    → ((n : ℕ) → n < k → p n ≡ true → name n < m)
    → ((n o : ℕ) → n < k → o < k → p n ≡ true → p o ≡ true → name n ≡ name o → n ≡ o)
    → sum_to (one_if p) k ≤ m
pigeons p name k zero below own =
    let none = none_pass p k (λ n less t. (let no = below n less t in omega (arith, no))) in
    omega (arith, none)
pigeons p name k (suc m) below own =
    let share = shared_out p (lower p name m) (last p name m) k (shared p name m) in
    let rest = pigeons (lower p name m) name k m
    (λ n less t. below_last p name m n (below n less (passes_lower p name m n t)) t)
    (λ n o less more t u same. own n o less more (passes_lower p name m n t)
    (passes_lower p name m o u) same) in
    let one = one_passes (last p name m) k
    (λ n o less more t u. own n o less more (passes_last p name m n t) (passes_last p name m o u)
    (name_last p name m n t ∙ sym (name_last p name m o u))) in
    omega (arith, share, rest, one)
