-- Nodes that share a fold with others.
use Rattle.std.proofs.Common.{◌≡◌, ◌≢◌, ◌⊎◌, inl, inr, ℕ, ◌+◌, ◌≤◌, ◌==◌, Bool, true, false, cond, Option, Some, None, List, [], ◌∷◌, ◌++◌, refl, sym, ap, ◌∙◌, arith, eq-eqb}
use Rattle.std.proofs.lemmas.Bool.Decides.{nat_tests}
use Rattle.chain_arena.specs.declared.node.Node.{Node}
use Rattle.chain_arena.specs.Bag.{same_node, HasNode}
use Rattle.chain_arena.specs.Count.{bit}
use Rattle.chain_arena.proofs.BagLemmas.{same_is}
use Rattle.hash_law.specs.Entries.{has_fold, unless_alike, first_or, firsts, lasts, representatives}
use Rattle.hash_upkeep.specs.Cover.{count_with}

pub eqb_is : (m n : ℕ) → (m == n) ≡ true → m ≡ n
eqb_is m n e = grind (arith, nat_tests)

-- nodes of two lists with a fold
pub count_with-append : (fold : ℕ) (xs ys : List Node)
    → count_with fold (xs ++ ys) ≡ count_with fold xs + count_with fold ys
count_with-append fold [] ys = omega arith
count_with-append fold (x ∷ xs) ys = omega (arith, count_with-append fold xs ys)

-- a node has a fold or another
pub fold_or_other : (m : Node) (fold : ℕ) → (m.fold ≡ fold) ⊎ (bit (m.fold == fold) ≡ 0)
fold_or_other m fold = go (m.fold == fold) refl
  where
    go : (b : Bool) → (m.fold == fold) ≡ b → (m.fold ≡ fold) ⊎ (bit (m.fold == fold) ≡ 0)
    go true e = inl (eqb_is m.fold fold e)
    go false e = inr (ap bit e)

-- nodes of which one does not count with the other's fold have two folds
pub folds_apart : (m n : Node) → bit (m.fold == n.fold) ≡ 0 → n.fold ≢ m.fold
folds_apart m n none e = omega (arith, none, ap bit (eq-eqb m.fold n.fold (sym e)))

-- a node shares its fold with itself
pub shares_own : (m : Node) (ms : List Node) (fold : ℕ) → m.fold ≡ fold
    → 1 ≤ count_with fold (m ∷ ms)
shares_own m ms fold e = let one : bit (m.fold == fold) ≡ 1 = ap bit (eq-eqb m.fold fold e) in
    omega (arith, one)

-- a node of a list shares its fold with one of them
pub has_shares : (n : Node) (ms : List Node) → HasNode ms n → 1 ≤ count_with n.fold ms
has_shares n [] has = absurd (omega (arith, has))
has_shares n (m ∷ ms) has = go (same_node n m) refl (has_shares n ms)
  where
    go : (b : Bool) → same_node n m ≡ b → (HasNode ms n → 1 ≤ count_with n.fold ms)
        → 1 ≤ count_with n.fold (m ∷ ms)
    go true e more = shares_own m ms n.fold (ap (λ (z : Node). z.fold) (sym (same_is n m e)))
    go false e more = let none : bit (same_node n m) ≡ 0 = ap bit e in
        omega (arith, more (omega (arith, has, none)))

-- among a run's nodes, or behind one of its fold, there is an entry of the fold
first_shares : (fold : ℕ) (q : Option Node) (ms : List Node) → 1 ≤ count_with fold ms
    → (has_fold q fold ≡ true) ⊎ (1 ≤ count_with fold (firsts q ms))
first_shares fold q [] some = absurd (omega (arith, some))
first_shares fold q (m ∷ ms) some = elim (fold_or_other m fold) [
  | inl is ↦ here (has_fold q m.fold) refl is
  | inr other ↦ (elim (first_shares fold (Some m) ms (omega (arith, some, other))) [
    | inl alike ↦ here (has_fold q m.fold) refl (eqb_is m.fold fold alike)
    | inr more ↦ inr (omega (
      arith,
      more,
      count_with-append fold (unless_alike q m) (firsts (Some m) ms),
    ))
  ])
]
  where
    here : (b : Bool) → has_fold q m.fold ≡ b → m.fold ≡ fold
        → (has_fold q fold ≡ true) ⊎ (1 ≤ count_with fold (firsts q (m ∷ ms)))
    here true e is = inl (ap (has_fold q) (sym is) ∙ e)
    here false e is =
        let one : count_with fold (unless_alike q m) ≡ count_with fold (m ∷ []) =
        ap (λ b. count_with fold (cond b [] (m ∷ []))) e in
        inr (omega (
          arith,
          one,
          shares_own m [] fold is,
          count_with-append fold (unless_alike q m) (firsts (Some m) ms),
        ))

last_shares : (fold : ℕ) (ms : List Node) (q : Option Node) → 1 ≤ count_with fold ms
    → (has_fold q fold ≡ true) ⊎ (1 ≤ count_with fold (lasts ms q))
last_shares fold [] q some = absurd (omega (arith, some))
last_shares fold (m ∷ ms) q some = elim (fold_or_other m fold) [
  | inr other ↦ more (last_shares fold ms q (omega (arith, some, other)))
  | inl is ↦ here (last_shares fold ms q) ms refl (has_fold (first_or q ms) m.fold) refl is
]
  where
    more : (has_fold q fold ≡ true) ⊎ (1 ≤ count_with fold (lasts ms q))
        → (has_fold q fold ≡ true) ⊎ (1 ≤ count_with fold (lasts (m ∷ ms) q))
    more found = elim found [
      | inl alike ↦ inl alike
      | inr rest ↦ inr (omega (
        arith,
        rest,
        count_with-append fold (unless_alike (first_or q ms) m) (lasts ms q),
      ))
    ]

    here : (1 ≤ count_with fold ms
        → (has_fold q fold ≡ true) ⊎ (1 ≤ count_with fold (lasts ms q)))
        → (rest : List Node) → ms ≡ rest → (b : Bool) → has_fold (first_or q ms) m.fold ≡ b
        → m.fold ≡ fold
        → (has_fold q fold ≡ true) ⊎ (1 ≤ count_with fold (lasts (m ∷ ms) q))
    here among rest e false alike is =
        let one : count_with fold (unless_alike (first_or q ms) m) ≡ count_with fold (m ∷ []) =
        ap (λ b. count_with fold (cond b [] (m ∷ []))) alike in
        inr (omega (
          arith,
          one,
          shares_own m [] fold is,
          count_with-append fold (unless_alike (first_or q ms) m) (lasts ms q),
        ))
    here among [] e true alike is =
        inl (ap (has_fold q) (sym is) ∙ (ap (λ r. has_fold (first_or q r) m.fold) (sym e) ∙ alike))
    here among (y ∷ ys) e true alike is =
        let like : has_fold (Some y) m.fold ≡ true =
        ap (λ r. has_fold (first_or q r) m.fold) (sym e) ∙ alike in
        let some = shares_own y ys fold (eqb_is y.fold m.fold like ∙ is) in
        let there : count_with fold ms ≡ count_with fold (y ∷ ys) = ap (count_with fold) e in
        more (among (omega (arith, some, there)))

-- each fold of some nodes is that of an entry
pub runs_share : (left : Bool) (fold : ℕ) (ms : List Node) → 1 ≤ count_with fold ms
    → 1 ≤ count_with fold (representatives left ms)
runs_share true fold ms some = elim (first_shares fold None ms some) [
  | inl none ↦ absurd cc
  | inr more ↦ more
]
runs_share false fold ms some = elim (last_shares fold ms None some) [
  | inl none ↦ absurd cc
  | inr more ↦ more
]
