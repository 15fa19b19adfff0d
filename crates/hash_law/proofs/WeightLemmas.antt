-- What changes weigh, where a list weighs what its parts weigh together: how often a node stands in
-- it, or how long it is.
use Rattle.std.proofs.Common.{◌≡◌, ℕ, ◌+◌, ◌≤◌, Bool, true, false, if◌then◌else◌, Option, Some, None, List, [], ◌∷◌, ◌++◌, refl, ap, ◌∙◌, append_assoc, arith}
use Rattle.std.specs.Prelude.{reverse}
use Rattle.std.proofs.lemmas.List.{reverse-append}
use Rattle.chain_arena.specs.declared.node.Node.{Node}
use Rattle.hash_law.specs.Entries.{has_fold, unless_alike, first_or, last_or, firsts, lasts, representatives}
use Rattle.hash_law.specs.Changes.{leader, follower, newly_entered, brought_in, driven_out, tail_entries, seam}
use Rattle.hash_law.proofs.RunLemmas.{firsts-append, lasts-append, lasts_mirror, reversed_cons, first_or-reverse, last_or-reverse}

module _ (w : List Node → ℕ) (none : w [] ≡ 0)
    (both : (xs ys : List Node) → w (xs ++ ys) ≡ w xs + w ys) where
  -- a neighbour's entry, if there is one
  abbrev kept : Option Node → Option Node → List Node
  kept led None = []
  kept led (Some m) = unless_alike led m

  -- a list read from the end weighs the same
  pub weight-reverse : (xs : List Node) → w (reverse xs) ≡ w xs
  weight-reverse [] = refl
  weight-reverse (x ∷ xs) =
      let e = weight-reverse xs in
      let f = ap w (reversed_cons x xs) in
      omega (arith, e, f, both (reverse xs) (x ∷ []), both (x ∷ []) xs)

  -- a node beside which another one stands now
  other_leader : (q r follows : Option Node)
      → w (kept q follows) + w (newly_entered q r follows)
      ≡ w (kept r follows) + w (newly_entered r q follows)
  other_leader q r None = refl
  other_leader q r (Some m) = pick (has_fold q m.fold) (has_fold r m.fold)
    where
      pick : (a b : Bool)
          → w (if a then [] else m ∷ []) + w (if a then (if b then [] else m ∷ []) else [])
          ≡ w (if b then [] else m ∷ []) + w (if b then (if a then [] else m ∷ []) else [])
      pick true true = refl
      pick true false = omega arith
      pick false true = omega arith
      pick false false = refl

  -- what is entered newly is entered now
  newly_less : (q r follows : Option Node) → w (newly_entered q r follows) ≤ w (kept r follows)
  newly_less q r None = omega (arith, none)
  newly_less q r (Some m) = pick (has_fold q m.fold)
    where
      pick : (b : Bool)
          → w (if b then unless_alike r m else []) ≤ w (unless_alike r m)
      pick true = omega arith
      pick false = omega (arith, none)

  -- the neighbour before becomes another
  firsts_other : (q r : Option Node) (ys : List Node)
      → w (firsts q ys) + w (kept r (first_or None ys))
      ≡ w (firsts r ys) + w (kept q (first_or None ys))
  firsts_other q r [] = refl
  firsts_other q r (y ∷ ys) =
      omega (
        arith,
        both (unless_alike q y) (firsts (Some y) ys),
        both (unless_alike r y) (firsts (Some y) ys),
      )

  -- the first of them is among them
  kept_first : (q : Option Node) (ys : List Node)
      → w (kept q (first_or None ys)) ≤ w (firsts q ys)
  kept_first q [] = omega (arith, none)
  kept_first q (y ∷ ys) = omega (arith, both (unless_alike q y) (firsts (Some y) ys))

  -- what the mirror weighs
  mirror : (xs : List Node) (q : Option Node) → w (lasts xs q) ≡ w (firsts q (reverse xs))
  mirror xs q = ap w (lasts_mirror xs q) ∙ weight-reverse (firsts q (reverse xs))

  -- a node that comes, with left
  inserts_left : (xs ys : List Node) (x : Node)
      → w (firsts None (xs ++ x ∷ ys)) + w (driven_out (last_or None xs) x (first_or None ys))
      ≡ w (firsts None (xs ++ ys)) + w (brought_in (last_or None xs) x (first_or None ys))
  inserts_left xs ys x =
      let p = last_or None xs in
      let f = first_or None ys in
      omega (
        arith,
        ap w (firsts-append None xs (x ∷ ys)),
        ap w (firsts-append None xs ys),
        both (firsts None xs) (firsts p (x ∷ ys)),
        both (firsts None xs) (firsts p ys),
        both (unless_alike p x) (firsts (Some x) ys),
        firsts_other (Some x) p ys,
        other_leader p (Some x) f,
        both (unless_alike p x) (newly_entered p (Some x) f),
      )

  -- what it drives out was there
  driven_left : (xs ys : List Node) (x : Node)
      → w (driven_out (last_or None xs) x (first_or None ys)) ≤ w (firsts None (xs ++ ys))
  driven_left xs ys x =
      let p = last_or None xs in
      omega (
        arith,
        newly_less (Some x) p (first_or None ys),
        kept_first p ys,
        ap w (firsts-append None xs ys),
        both (firsts None xs) (firsts p ys),
      )

  -- of a list read from the end, with a node and without
  mirror_with : (xs ys : List Node) (x : Node)
      → w (lasts (xs ++ x ∷ ys) None) ≡ w (firsts None (reverse ys ++ x ∷ reverse xs))
  mirror_with xs ys x = mirror (xs ++ x ∷ ys) None ∙ ap (λ z. w (firsts None z)) (turned xs ys x)
    where
      turned : (xs ys : List Node) (x : Node)
          → reverse (xs ++ x ∷ ys) ≡ reverse ys ++ x ∷ reverse xs
      turned xs ys x =
          reverse-append xs (x ∷ ys) ∙ ap (λ z. z ++ reverse xs) (reversed_cons x ys)
          ∙ append_assoc (reverse ys) (x ∷ []) (reverse xs)

  mirror_without : (xs ys : List Node)
      → w (lasts (xs ++ ys) None) ≡ w (firsts None (reverse ys ++ reverse xs))
  mirror_without xs ys =
      mirror (xs ++ ys) None ∙ ap (λ z. w (firsts None z)) (reverse-append xs ys)

  -- a node that comes, on either side
  pub inserts : (left : Bool) (xs ys : List Node) (x : Node)
      → w (representatives left (xs ++ x ∷ ys))
      + w (driven_out (leader left xs ys) x (follower left xs ys))
      ≡ w (representatives left (xs ++ ys))
      + w (brought_in (leader left xs ys) x (follower left xs ys))
  inserts true xs ys x = inserts_left xs ys x
  inserts false xs ys x =
      let e = rw (last_or-reverse None ys, first_or-reverse None xs) at
      (inserts_left (reverse ys) (reverse xs) x) in
      omega (arith, e, mirror_with xs ys x, mirror_without xs ys)

  -- and what it drives out
  pub driven_there : (left : Bool) (xs ys : List Node) (x : Node)
      → w (driven_out (leader left xs ys) x (follower left xs ys))
      ≤ w (representatives left (xs ++ ys))
  driven_there true xs ys x = driven_left xs ys x
  driven_there false xs ys x =
      let e = rw (last_or-reverse None ys, first_or-reverse None xs) at
      (driven_left (reverse ys) (reverse xs) x) in
      omega (arith, e, mirror_without xs ys)

  -- without a leader a node was entered before
  newly_never : (r follows : Option Node) → w (newly_entered None r follows) ≡ 0
  newly_never r None = none
  newly_never r (Some m) = none

  -- the seam is what nobody follows any more
  bared : (xs : List Node) (q : Option Node)
      → w (lasts xs q) + w (newly_entered q None (last_or None xs)) ≡ w (lasts xs None)
  bared xs q =
      let f = first_or None (reverse xs) in
      let e : w (newly_entered q None f) ≡ w (newly_entered q None (last_or None xs)) =
      ap (λ z. w (newly_entered q None z)) (first_or-reverse None xs) in
      omega (
        arith,
        e,
        mirror xs q,
        mirror xs None,
        firsts_other q None (reverse xs),
        other_leader q None f,
        newly_never q f,
      )

  -- a tail that comes, on either side
  pub tails : (left : Bool) (xs ys : List Node)
      → w (representatives left (xs ++ ys)) + w (seam left xs ys)
      ≡ w (representatives left xs) + w (tail_entries left xs ys)
  tails true xs ys =
      omega (
        arith,
        none,
        ap w (firsts-append None xs ys),
        both (firsts None xs) (firsts (last_or None xs) ys),
      )
  tails false xs ys =
      omega (
        arith,
        ap w (lasts-append xs ys None),
        both (lasts xs (first_or None ys)) (lasts ys None),
        bared xs (first_or None ys),
      )

  -- the seam was there
  pub seam_there : (left : Bool) (xs ys : List Node)
      → w (seam left xs ys) ≤ w (representatives left xs)
  seam_there true xs ys = omega (arith, none)
  seam_there false xs ys = omega (arith, bared xs (first_or None ys))

  -- a tail's entries are there
  pub tail_there : (left : Bool) (xs ys : List Node)
      → w (tail_entries left xs ys) ≤ w (representatives left (xs ++ ys))
  tail_there true xs ys =
      omega (
        arith,
        ap w (firsts-append None xs ys),
        both (firsts None xs) (firsts (last_or None xs) ys),
      )
  tail_there false xs ys =
      omega (
        arith,
        ap w (lasts-append xs ys None),
        both (lasts xs (first_or None ys)) (lasts ys None),
      )
