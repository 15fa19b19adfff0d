-- Representatives of lists behind one another, of lists read from the end, and of one run.
use Rattle.std.proofs.Common.{◌≡◌, ℕ, ◌==◌, Bool, true, false, if◌then◌else◌, Option, Some, None, List, [], ◌∷◌, ◌++◌, refl, sym, ap, ◌∙◌, append_assoc, eq-eqb, arith}
use Rattle.std.specs.Prelude.{reverse}
use Rattle.std.specs.List.{AllByRecursion}
use Rattle.std.proofs.lemmas.List.{reverse-append, reverse-reverse, append-nil}
use Rattle.std.proofs.lemmas.Bool.Decides.{nat_tests}
use Rattle.chain_arena.specs.declared.node.Node.{Node}
use Rattle.hash_law.specs.Entries.{has_fold, unless_alike, first_or, last_or, firsts, lasts, representatives, IsRun, run_entry}

-- the last of two lists is the last of the second, or else of the first
pub last_or-append : (q : Option Node) (xs ys : List Node)
    → last_or q (xs ++ ys) ≡ last_or (last_or q xs) ys
last_or-append q [] ys = refl
last_or-append q (x ∷ xs) ys = last_or-append (Some x) xs ys

-- the first of two lists is the first of the first, or else of the second
pub first_or-append : (q : Option Node) (xs ys : List Node)
    → first_or q (xs ++ ys) ≡ first_or (first_or q ys) xs
first_or-append q [] ys = refl
first_or-append q (x ∷ xs) ys = refl

-- the first nodes of the runs of two lists
pub firsts-append : (q : Option Node) (xs ys : List Node)
    → firsts q (xs ++ ys) ≡ firsts q xs ++ firsts (last_or q xs) ys
firsts-append q [] ys = refl
firsts-append q (x ∷ xs) ys =
    ap (λ z. unless_alike q x ++ z) (firsts-append (Some x) xs ys)
    ∙ sym (append_assoc (unless_alike q x) (firsts (Some x) xs) (firsts (last_or (Some x) xs) ys))

-- a list read from the end
pub reversed_cons : (x : Node) (xs : List Node) → reverse (x ∷ xs) ≡ reverse xs ++ x ∷ []
reversed_cons x xs = reverse-append (x ∷ []) xs

-- the last of a list read from the end is its first
pub last_or-reverse : (q : Option Node) (xs : List Node)
    → last_or q (reverse xs) ≡ first_or q xs
last_or-reverse q [] = refl
last_or-reverse q (x ∷ xs) =
    ap (last_or q) (reversed_cons x xs) ∙ last_or-append q (reverse xs) (x ∷ [])

-- and its first is the last
pub first_or-reverse : (q : Option Node) (xs : List Node)
    → first_or q (reverse xs) ≡ last_or q xs
first_or-reverse q xs =
    sym (last_or-reverse q (reverse xs)) ∙ ap (last_or q) (reverse-reverse xs)

-- one node, or none, read from the end
unless_alike-reverse : (q : Option Node) (x : Node)
    → reverse (unless_alike q x) ≡ unless_alike q x
unless_alike-reverse q x = pick (has_fold q x.fold)
  where
    pick : (b : Bool)
        → reverse (if b then [] else x ∷ []) ≡ (if b then [] else x ∷ [])
    pick true = refl
    pick false = refl

-- the last nodes of the runs are the first ones, read from the end
pub lasts_mirror : (xs : List Node) (q : Option Node)
    → lasts xs q ≡ reverse (firsts q (reverse xs))
lasts_mirror [] q = refl
lasts_mirror (x ∷ xs) q = sym (
    ap (λ z. reverse (firsts q z)) (reversed_cons x xs)
    ∙ ap reverse (firsts-append q (reverse xs) (x ∷ []))
    ∙ ap (λ z. reverse (firsts q (reverse xs) ++ z))
    (append-nil (unless_alike (last_or q (reverse xs)) x))
    ∙ reverse-append (firsts q (reverse xs)) (unless_alike (last_or q (reverse xs)) x)
    ∙ ap (λ z. z ++ reverse (firsts q (reverse xs)))
    (unless_alike-reverse (last_or q (reverse xs)) x)
    ∙ ap (λ z. unless_alike z x ++ reverse (firsts q (reverse xs))) (last_or-reverse q xs)
    ∙ ap (λ z. unless_alike (first_or q xs) x ++ z) (sym (lasts_mirror xs q)))

-- the last nodes of the runs of two lists
pub lasts-append : (xs ys : List Node) (q : Option Node)
    → lasts (xs ++ ys) q ≡ lasts xs (first_or q ys) ++ lasts ys q
lasts-append xs ys q =
    lasts_mirror (xs ++ ys) q
    ∙ ap (λ z. reverse (firsts q z)) (reverse-append xs ys)
    ∙ ap reverse (firsts-append q (reverse ys) (reverse xs))
    ∙ reverse-append (firsts q (reverse ys)) (firsts (last_or q (reverse ys)) (reverse xs))
    ∙ ap (λ z. reverse (firsts z (reverse xs)) ++ reverse (firsts q (reverse ys)))
    (last_or-reverse q ys)
    ∙ ap (λ z. z ++ reverse (firsts q (reverse ys))) (sym (lasts_mirror xs (first_or q ys)))
    ∙ ap (λ z. lasts xs (first_or q ys) ++ z) (sym (lasts_mirror ys q))

-- right is left, read from the end
pub right_mirrors : (ms : List Node)
    → representatives false ms ≡ reverse (representatives true (reverse ms))
right_mirrors ms = lasts_mirror ms None

-- the last of a run
last_is : (m : Node) (ms : List Node) → last_or (Some m) ms ≡ Some (run_entry false m ms)
last_is m [] = refl
last_is m (x ∷ ms) = last_is x ms

-- and its fold
last_fold : (fold : ℕ) (m : Node) (ms : List Node) → m.fold ≡ fold
    → AllByRecursion (λ (x : Node). x.fold ≡ fold) ms → (run_entry false m ms).fold ≡ fold
last_fold fold m [] e all = e
last_fold fold m (x ∷ ms) e all = last_fold fold x ms all.0 all.1

-- two tests of folds that agree
alike_true : (a b c : ℕ) → a ≡ c → b ≡ c → (a == b) ≡ true
alike_true a b c e f = eq-eqb a b (e ∙ sym f)

-- behind a node of the run only other folds begin anew
unlike_false : (a b c : ℕ) → a ≡ c → (b == c) ≡ false → (a == b) ≡ false
unlike_false a b c e f = grind (arith, nat_tests)

-- behind its first node a run has no further entry
run_goes_on : (fold : ℕ) (m : Node) (ms : List Node) → m.fold ≡ fold
    → AllByRecursion (λ (x : Node). x.fold ≡ fold) ms → firsts (Some m) ms ≡ []
run_goes_on fold m [] e all = refl
run_goes_on fold m (x ∷ ms) e all =
    ap (λ b. (if b then [] else x ∷ []) ++ firsts (Some x) ms)
    (alike_true m.fold x.fold fold e all.0)
    ∙ run_goes_on fold x ms all.0 all.1

-- the first nodes behind a run
behind_run : (fold : ℕ) (m : Node) (ys : List Node) → m.fold ≡ fold
    → has_fold (first_or None ys) fold ≡ false → firsts (Some m) ys ≡ firsts None ys
behind_run fold m [] e other = refl
behind_run fold m (y ∷ ys) e other =
    ap (λ b. (if b then [] else y ∷ []) ++ firsts (Some y) ys)
    (unlike_false m.fold y.fold fold e other)

-- the last nodes in front of a run
before_run : (fold : ℕ) (xs : List Node) (m : Node) → m.fold ≡ fold
    → has_fold (last_or None xs) fold ≡ false → lasts xs (Some m) ≡ lasts xs None
before_run fold xs m e other =
    lasts_mirror xs (Some m)
    ∙ ap reverse (behind_run fold m (reverse xs) e
    (ap (λ z. has_fold z fold) (first_or-reverse None xs) ∙ other))
    ∙ sym (lasts_mirror xs None)

-- the last node of a run
lasts_run : (fold : ℕ) (m : Node) (ms : List Node) (q : Option Node) → m.fold ≡ fold
    → AllByRecursion (λ (x : Node). x.fold ≡ fold) ms → has_fold q fold ≡ false
    → lasts (m ∷ ms) q ≡ run_entry false m ms ∷ []
lasts_run fold m [] q e all other =
    ap (λ b. (if b then [] else m ∷ []) ++ []) (ap (has_fold q) e ∙ other)
lasts_run fold m (x ∷ ms) q e all other =
    ap (λ b. (if b then [] else m ∷ []) ++ lasts (x ∷ ms) q)
    (alike_true x.fold m.fold fold all.0 e)
    ∙ lasts_run fold x ms q all.0 all.1 other

-- a run among others has one entry
pub one_entry : (left : Bool) (before after : List Node) (m : Node) (ms : List Node)
    → IsRun before (m ∷ ms) after
    → representatives left (before ++ (m ∷ ms) ++ after)
    ≡ representatives left before ++ run_entry left m ms ∷ representatives left after
one_entry true before after m ms run =
    let p = last_or None before in
    let first : firsts p (m ∷ ms) ≡ m ∷ [] =
    ap (λ b. (if b then [] else m ∷ []) ++ firsts (Some m) ms)
    (ap (has_fold p) run.alike.0 ∙ run.begins)
    ∙ ap (λ z. m ∷ z) (run_goes_on run.fold m ms run.alike.0 run.alike.1) in
    let last : last_or None (before ++ (m ∷ ms)) ≡ Some (run_entry false m ms) =
    last_or-append None before (m ∷ ms) ∙ last_is m ms in
    let rest : firsts (last_or None (before ++ (m ∷ ms))) after ≡ firsts None after =
    ap (λ z. firsts z after) last
    ∙ behind_run run.fold (run_entry false m ms) after
    (last_fold run.fold m ms run.alike.0 run.alike.1) run.ends in
    firsts-append None (before ++ (m ∷ ms)) after
    ∙ ap (λ z. z ++ firsts (last_or None (before ++ (m ∷ ms))) after)
    (firsts-append None before (m ∷ ms) ∙ ap (λ z. firsts None before ++ z) first)
    ∙ ap (λ z. (firsts None before ++ m ∷ []) ++ z) rest
    ∙ append_assoc (firsts None before) (m ∷ []) (firsts None after)
one_entry false before after m ms run =
    let q = first_or None after in
    lasts-append (before ++ (m ∷ ms)) after None
    ∙ ap (λ z. z ++ lasts after None) (
    lasts-append before (m ∷ ms) q
    ∙ ap (λ z. z ++ lasts (m ∷ ms) q) (before_run run.fold before m run.alike.0 run.begins)
    ∙ ap (λ z. lasts before None ++ z)
    (lasts_run run.fold m ms q run.alike.0 run.alike.1 run.ends))
    ∙ append_assoc (lasts before None) (run_entry false m ms ∷ []) (lasts after None)
