-- What is added to what a pass knows, which trees that spares, and what stays in hand.
use Rattle.std.proofs.Common.{◌≡◌, ◌≢◌, ℕ, suc, ◌<◌, List, [], ◌∷◌, ◌++◌, inl, inr, sym, ap, subst, ◌∙◌, refl, arith, append-nil, Option}
use Rattle.std.specs.List.{AllByRecursion}
use Rattle.std.proofs.lemmas.Bool.{cases_eq}
use mathlib.Core.Option.{some}
use lib.ListN.{get_elem?}
use Rattle.atomic_table.proofs.Lists.{set_here, set_else}
use Rattle.list_facts.proofs.Each.{each_left, each_right, each_append, each_weaker}
use Rattle.list_facts.proofs.Places.{inside}
use Rattle.latch_law.specs.declared.knows.Holding.{Holding}
use Rattle.latch_law.specs.declared.knows.Reference.{Reference}
use Rattle.latch_law.specs.declared.knows.Refusal.{Refusal}
use Rattle.latch_law.specs.declared.knows.Terms.{Terms}
use Rattle.latch_law.specs.Fitting.{AreTriesOf, Extends}
use Rattle.latch_law.specs.Views.{with_held, with_refused, refusing, releasing, answer_said, reading}
use Rattle.latch_law.specs.Whole.{reference}
use Rattle.latch_space.specs.Has.{SameBut}
use Rattle.latch_space.specs.Passes.{view}
use Rattle.index_law.specs.Answers.{Saying}
use Rattle.index_law.specs.Shape.{Shape}
use Rattle.index_law.specs.State.{Entries}
use Rattle.forest_law.specs.declared.objects.Frame.{Frame}
use Rattle.forest_law.specs.declared.objects.Tree.{Tree}
use Rattle.forest_law.specs.declared.objects.Object.{Object}
use Rattle.forest_law.specs.Numbers.{pool_id, tree_id, part_id, frame_id}
use Rattle.forest_world.specs.Held.{TreePass}
use Rattle.call_law.specs.Hands.{KnowsFrame, KnowsTree, HoldsNoPart, HoldsTheRest}
use Rattle.call_law.specs.Spoken.{View, OwnAnswer}
use Rattle.call_law.specs.Trace.{SameNumbers, SeesMore, Added, Adds, IsNoTree, SparesTrees}
use Rattle.call_law.proofs.TraceLemmas.{both_added}

-- nothing was added
abbrev pub none_added : Added
none_added = record { said = []; refused = []; references = [] }

-- some refused tries alone
abbrev pub only_refused : List (Refusal Object) → Added
only_refused fs = record { said = []; refused = fs; references = [] }

-- one reference alone
abbrev pub only_given : ℕ → Object → Object → Added
only_given k taken known =
    record { said = []; refused = []; references = reference k taken known ∷ [] }

-- one own answer alone
abbrev pub only_said : OwnAnswer → Added
only_said q = record { said = q ∷ []; refused = []; references = [] }

-- what was seen of each list is seen
pub sees_same : (v v' : View) → v'.seen ≡ v.seen → SeesMore v v'
sees_same v v' e j ys at =
    ([], ap (λ (s : List Entries). get_elem? s j) e ∙ (at ∙ ap some (sym (append-nil ys))))

module _ (v v' : View) where
  -- it knows what it knew, and holds other objects perhaps
  pub held_adds : (hs : List (Option (Holding Object))) → v' ≡ record v { held = hs }
      → Adds v v' none_added
  held_adds hs e = record {
    numbers = record {
      low = ap (λ (z : View). z.low) e;
      end = ap (λ (z : View). z.end) e;
      terms = ap (λ (z : View). z.terms) e;
    };
    said = ap (λ (z : View). z.said) e ∙ sym (append-nil v.said);
    refused = ap (λ (z : View). z.refused) e ∙ sym (append-nil v.refused);
    references = ap (λ (z : View). z.references) e ∙ sym (append-nil v.references);
    seen = sees_same v v' (ap (λ (z : View). z.seen) e);
  }

  -- an object was taken after some refused tries
  pub took_adds : (fs : List (Refusal Object)) (k : ℕ) (h : Option (Holding Object))
      → v' ≡ with_held (with_refused v fs) k h → Adds v v' (only_refused fs)
  took_adds fs k h e = record {
    numbers = record {
      low = ap (λ (z : View). z.low) e;
      end = ap (λ (z : View). z.end) e;
      terms = ap (λ (z : View). z.terms) e;
    };
    said = ap (λ (z : View). z.said) e ∙ sym (append-nil v.said);
    refused = ap (λ (z : View). z.refused) e;
    references = ap (λ (z : View). z.references) e ∙ sym (append-nil v.references);
    seen = sees_same v v' (ap (λ (z : View). z.seen) e);
  }

  -- an object was tried in vain
  pub tried_adds : (k n : ℕ) → v' ≡ refusing v k n
      → Adds v v' (only_refused (record { object = k; holder = n; held = v.held } ∷ []))
  tried_adds k n e = record {
    numbers = record {
      low = ap (λ (z : View). z.low) e;
      end = ap (λ (z : View). z.end) e;
      terms = ap (λ (z : View). z.terms) e;
    };
    said = ap (λ (z : View). z.said) e ∙ sym (append-nil v.said);
    refused = ap (λ (z : View). z.refused) e;
    references = ap (λ (z : View). z.references) e ∙ sym (append-nil v.references);
    seen = sees_same v v' (ap (λ (z : View). z.seen) e);
  }

  -- an object was given back
  pub gave_adds : (k : ℕ) (h : Holding Object) → v' ≡ releasing v k h
      → Adds v v' (only_given k h.taken h.known)
  gave_adds k h e = record {
    numbers = record {
      low = ap (λ (z : View). z.low) e;
      end = ap (λ (z : View). z.end) e;
      terms = ap (λ (z : View). z.terms) e;
    };
    said = ap (λ (z : View). z.said) e ∙ sym (append-nil v.said);
    refused = ap (λ (z : View). z.refused) e ∙ sym (append-nil v.refused);
    references = ap (λ (z : View). z.references) e;
    seen = sees_same v v' (ap (λ (z : View). z.seen) e);
  }

  -- an answer was given at the end of a list
  pub read_adds : (i : ℕ) (xs : Entries) (a : Saying) → Extends v i xs → v' ≡ reading v i xs a
      → Adds v v' (only_said (answer_said v i xs a))
  read_adds i xs a extends e = record {
    numbers = record {
      low = ap (λ (z : View). z.low) e;
      end = ap (λ (z : View). z.end) e;
      terms = ap (λ (z : View). z.terms) e;
    };
    said = ap (λ (z : View). z.said) e;
    refused = ap (λ (z : View). z.refused) e ∙ sym (append-nil v.refused);
    references = ap (λ (z : View). z.references) e ∙ sym (append-nil v.references);
    seen = λ j ys at. elim (cases_eq j i) [
      | inl is ↦ (let more = extends ys (ap (get_elem? v.seen) (sym is) ∙ at) in (
        more.0,
        ap (λ (z : View). get_elem? z.seen j) e
            ∙ (ap (get_elem? (reading v i xs a).seen) is
            ∙ (set_here v.seen i xs (inside v.seen i ys (ap (get_elem? v.seen) (sym is) ∙ at))
            ∙ ap some (sym more.1))),
      ))
      | inr ne ↦ (
        [],
        ap (λ (z : View). get_elem? z.seen j) e
            ∙ (set_else v.seen i j xs ne ∙ (at ∙ ap some (sym (append-nil ys)))),
      )
    ];
  }

-- what stays in hand
module _ (v v' : View) where
  pub rest_none : (ks : List ℕ) → HoldsTheRest v v' [] → HoldsTheRest v v' ks
  rest_none ks rest j apart = rest j tt

  pub rest_more : (k : ℕ) (ks : List ℕ) → HoldsTheRest v v' ks → HoldsTheRest v v' (k ∷ ks)
  rest_more k ks rest j apart = rest j apart.1

  -- an object that is held as before, or lacked as before, is among the rest
  pub rest_again : (k : ℕ) (ks : List ℕ) → HoldsTheRest v v' (k ∷ ks)
      → get_elem? v'.held k ≡ get_elem? v.held k → HoldsTheRest v v' ks
  rest_again k ks rest same j apart = elim (cases_eq j k) [
    | inl e ↦ ap (get_elem? v'.held) e ∙ (same ∙ ap (get_elem? v.held) (sym e))
    | inr ne ↦ rest j (ne, apart)
  ]

  pub rest_swap : (k l : ℕ) (ks : List ℕ) → HoldsTheRest v v' (k ∷ l ∷ ks)
      → HoldsTheRest v v' (l ∷ k ∷ ks)
  rest_swap k l ks rest j apart = rest j (apart.1.0, (apart.0, apart.1.1))

  module _ (ks : List ℕ) (same : SameNumbers v v') (rest : HoldsTheRest v v' ks)
      (b : ℕ) (apart : AllByRecursion (λ (j : ℕ). frame_id v.terms.shape b ≢ j) ks)
      (f : Frame) where
    -- a frame of the rest is known as before
    pub frame_still : KnowsFrame v b f → KnowsFrame v' b f
    frame_still knows = (
      knows.0,
      ap (λ (t : Terms Shape). get_elem? v'.held (frame_id t.shape b)) same.terms
          ∙ (rest (frame_id v.terms.shape b) apart ∙ knows.1),
    )

    -- and was known so before
    pub frame_before : KnowsFrame v' b f → KnowsFrame v b f
    frame_before knows = (
      knows.0,
      sym (rest (frame_id v.terms.shape b) apart)
          ∙ (ap (λ (t : Terms Shape). get_elem? v'.held (frame_id t.shape b)) (sym same.terms)
          ∙ knows.1),
    )

  -- a partition of the rest is lacked as before
  pub parts_still : (ks : List ℕ) → SameNumbers v v' → HoldsTheRest v v' ks
      → ((k : ℕ) → k < v.terms.shape.parts
      → AllByRecursion (λ (j : ℕ). part_id v.terms.shape k ≢ j) ks)
      → HoldsNoPart v → HoldsNoPart v'
  parts_still ks same rest apart lacks k below =
      let shape : v'.terms.shape ≡ v.terms.shape = ap (λ (t : Terms Shape). t.shape) same.terms in
      let less = subst (λ (s : Shape). k < s.parts) shape below in
      ap (λ (s : Shape). get_elem? v'.held (part_id s k)) shape
      ∙ (rest (part_id v.terms.shape k) (apart k less) ∙ lacks k less)

  -- a tree of the rest is known as before
  pub tree_still : (ks : List ℕ) → HoldsTheRest v v' ks → (i : ℕ)
      → AllByRecursion (λ (j : ℕ). tree_id i ≢ j) ks → (t : Tree) → KnowsTree v i t
      → KnowsTree v' i t
  tree_still ks rest i apart t knows = (knows.0, rest (tree_id i) apart ∙ knows.1)

-- what stays in hand over two calls
pub rest_both : (v v0 v1 : View) (ks : List ℕ) → HoldsTheRest v v0 ks → HoldsTheRest v0 v1 ks
    → HoldsTheRest v v1 ks
rest_both v v0 v1 ks first second j apart = second j apart ∙ first j apart

pub rest_append : (v v0 v1 : View) (ks js : List ℕ) → HoldsTheRest v v0 ks
    → HoldsTheRest v0 v1 js → HoldsTheRest v v1 (ks ++ js)
rest_append v v0 v1 ks js first second j apart =
    second j (each_right (λ (k : ℕ). j ≢ k) ks js apart)
    ∙ first j (each_left (λ (k : ℕ). j ≢ k) ks js apart)

-- all but one object is held as before
pub rest_but_one : (p q : TreePass) (k : ℕ) → SameBut p q k
    → HoldsTheRest (view p) (view q) (k ∷ [])
rest_but_one p q k others j apart = (others j apart.0).0

-- the pool is no tree, and no frame is one
pub pool_no_tree : (shape : Shape) → IsNoTree shape pool_id
pool_no_tree shape i below e = omega (arith, e)

pub frame_no_tree : (shape : Shape) (b : ℕ) → IsNoTree shape (frame_id shape b)
frame_no_tree shape b i below e = omega (arith, below, e)

-- tries of one object are of that
pub tried_objects : (v : View) (k : ℕ) (fs : List (Refusal Object)) → AreTriesOf v k fs
    → AllByRecursion (λ (f : Refusal Object). f.object ≡ k) fs
tried_objects v k [] tries = tt
tried_objects v k (f ∷ fs) tries =
    ((tries 0 f refl).0, tried_objects v k fs (λ j g at. tries (suc j) g at))

module _ (shape : Shape) where
  -- tries of what is no tree spare the trees
  pub tries_spare : (v : View) (k : ℕ) (fs : List (Refusal Object)) → AreTriesOf v k fs
      → IsNoTree shape k → SparesTrees shape (only_refused fs)
  tries_spare v k fs tries apart = record {
    refused = each_weaker (λ (f : Refusal Object). f.object ≡ k)
        (λ (f : Refusal Object). IsNoTree shape f.object)
        (λ f is. subst (IsNoTree shape) (sym is) apart) fs (tried_objects v k fs tries);
    references = tt;
  }

  pub given_spares : (k : ℕ) (taken known : Object) → IsNoTree shape k
      → SparesTrees shape (only_given k taken known)
  given_spares k taken known apart = record { refused = tt; references = (apart, tt) }

  pub none_spares : SparesTrees shape none_added
  none_spares = record { refused = tt; references = tt }

  pub spares_both : (a b : Added) → SparesTrees shape a → SparesTrees shape b
      → SparesTrees shape (both_added a b)
  spares_both a b first second = record {
    refused = each_append (λ (f : Refusal Object). IsNoTree shape f.object) a.refused b.refused
        first.refused second.refused;
    references = each_append (λ (q : Reference Object). IsNoTree shape q.object) a.references
        b.references first.references second.references;
  }
