-- What was made in hand, once it is known.
use Rattle.std.proofs.Common.{◌≡◌, ◌≢◌, ℕ, suc, zero, List, [], ◌∷◌, inl, inr, sym, ap, subst, ◌∙◌, refl, Option, Some, None}
use Rattle.std.specs.List.{AllByRecursion}
use Rattle.std.proofs.lemmas.Bool.{cases_eq}
use mathlib.Core.Option.{some, some-injective}
use lib.ListN.{get_elem?}
use Rattle.list_facts.proofs.Places.{same_some}
use Rattle.latch_law.specs.declared.knows.Holding.{Holding}
use Rattle.latch_law.specs.declared.knows.Terms.{Terms}
use Rattle.latch_law.specs.Rule.{Holds}
use Rattle.latch_law.specs.Views.{holding, learnt}
use Rattle.latch_space.specs.Has.{IsKnown, DidSettle}
use Rattle.latch_space.specs.Passes.{view, values, count, IsWhole, Shows}
use Rattle.latch_space.proofs.Pointwise.{learnt_known}
use Rattle.index_law.specs.Shape.{Shape}
use Rattle.forest_law.specs.declared.objects.Frame.{Frame}
use Rattle.forest_law.specs.declared.objects.Tree.{Tree}
use Rattle.forest_law.specs.declared.objects.Object.{Object}
use Rattle.forest_law.specs.declared.objects.Object.TheVariants as object
use Rattle.forest_law.specs.Numbers.{tree_id, frame_id}
use Rattle.forest_world.specs.Held.{TreePass, shape_of_pass, HasFrame, HasTree, RestsBeyond, IsKnownBeyond}
use Rattle.forest_world.proofs.HandLemmas.{known_is_at_rest}
use Rattle.call_law.specs.Hands.{KnowsFrame, KnowsTree, HoldsTheRest}
use Rattle.call_law.specs.Spoken.{View}
use Rattle.buffer_pool.specs.Calls.{DoesSilently}
use Rattle.buffer_pool.proofs.AddedLemmas.{none_added, held_adds, none_spares}
use Rattle.tree_smo.specs.Remakes.{Remakes}
use Rattle.tree_smo.proofs.RemakeLemmas.{known_remade}

-- what is learnt to be what it is known to be is known as before
learnt_same : {O : Type 0} (vs : List (Option O)) (hs : List (Option (Holding O))) (k : ℕ)
    → ((h : Holding O) → get_elem? hs k ≡ some (Some h) → get_elem? vs k ≡ some (Some h.known))
    → get_elem? (learnt vs hs) k ≡ get_elem? hs k
learnt_same [] hs k f = refl
learnt_same (v ∷ vs) [] k f = refl
learnt_same (Some x ∷ vs) (Some h ∷ hs) zero f = ap (λ y. some (Some (holding h.taken y)))
    (same_some x h.known (some-injective (Some x) (Some h.known) (f h refl)))
learnt_same (Some x ∷ vs) (Some h ∷ hs) (suc k) f = learnt_same vs hs k f
learnt_same (Some x ∷ vs) (None ∷ hs) zero f = refl
learnt_same (Some x ∷ vs) (None ∷ hs) (suc k) f = learnt_same vs hs k f
learnt_same (None ∷ vs) (h ∷ hs) zero f = refl
learnt_same (None ∷ vs) (h ∷ hs) (suc k) f = learnt_same vs hs k f

-- a hand is whole where it is known but for some objects, and these show
pub whole_but : (m : TreePass) (ks : List ℕ) → IsKnownBeyond m ks
    → AllByRecursion (λ (k : ℕ). (x : Object) × Shows m k x) ks → IsWhole m
whole_but m ks known each j h held = go ks (λ apart. known j h apart held) each
  where
    go : (js : List ℕ) → (AllByRecursion (λ (k : ℕ). j ≢ k) js → Shows m j h.known)
        → AllByRecursion (λ (k : ℕ). (x : Object) × Shows m k x) js → (x : Object) × Shows m j x
    go [] f a = (h.known, f tt)
    go (k ∷ js) f a = elim (cases_eq j k) [
      | inl e ↦ (a.0.0, ap (get_elem? (values m)) e ∙ a.0.1)
      | inr ne ↦ go js (λ apart. f (ne, apart)) a.1
    ]

module _ (p m : TreePass) (ks : List ℕ) (known : IsKnown p) (remakes : Remakes p m ks) where
  -- what wasn't remade is known, and so at rest
  pub known_beyond : IsKnownBeyond m ks
  known_beyond j h apart held = known_remade p m ks remakes known j h apart held

  pub rests_beyond : RestsBeyond m ks
  rests_beyond = known_is_at_rest.beyond m ks known_beyond

  module _ (whole : IsWhole m) (q : TreePass) (did : DidSettle m q) where
    rest : HoldsTheRest (view p) (view q) ks
    rest k apart = ap (λ (v : View). get_elem? v.held k) did.view
        ∙ (learnt_same (values m) (view m).held k (λ h held. known_beyond k h apart held)
        ∙ ap (λ (v : View). get_elem? v.held k) remakes.same_view)

    -- all is known after the settle, and nothing else was done
    pub settled_does : DoesSilently p q ks
    settled_does = record {
      added = none_added;
      does = record {
        adds = held_adds (view p) (view q) (learnt (values m) (view m).held)
            (did.view ∙ ap (λ (v : View). record v { held = learnt (values m) (view m).held })
            remakes.same_view);
        spares = none_spares (shape_of_pass p);
        rest = rest;
        known = learnt_known m q whole (ap (λ (v : View). v.held) did.view) did.learnt.values;
      };
      silent = refl;
    }

    pub settled_count : count q ≡ count p
    settled_count = did.learnt.count ∙ remakes.same_count

-- what was in hand is known
module _ (m q : TreePass) (did : DidSettle m q) where
  pub settled_frame : (b : ℕ) (f g : Frame) → HasFrame m b f g → KnowsFrame (view q) b g
  settled_frame b f g has = subst
      (λ (t : Terms Shape). (taken : Object)
      × Holds (view q) (frame_id t.shape b) (holding taken (object.Frame g)))
      (sym (ap (λ (v : View). v.terms) did.view))
      (did.learnt.has (frame_id (shape_of_pass m) b) (object.Frame f) (object.Frame g) has).held

  pub settled_tree : (i : ℕ) (t u : Tree) → HasTree m i t u → KnowsTree (view q) i u
  settled_tree i t u has =
      (did.learnt.has (tree_id i) (object.Tree t) (object.Tree u) has).held
