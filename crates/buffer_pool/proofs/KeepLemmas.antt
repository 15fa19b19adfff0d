-- What stays in hand while one object is taken, changed or given back.
use Rattle.std.proofs.Common.{◌≡◌, ◌≢◌, ℕ, ◌<◌, List, inl, inr, sym, ap, subst, ◌∙◌, refl, arith, Option, Some, None}
use Rattle.std.specs.List.{AllByRecursion}
use Rattle.std.proofs.lemmas.Bool.{cases_eq}
use mathlib.Core.Option.{some}
use mathlib.Core.Option as maybe
use lib.ListN.{get_elem?}
use Rattle.list_facts.proofs.Places.{inside, there}
use Rattle.latch_law.specs.declared.knows.Holding.{Holding}
use Rattle.latch_law.specs.declared.knows.Terms.{Terms}
use Rattle.latch_law.specs.Rule.{Holds}
use Rattle.latch_law.specs.Views.{learnt}
use Rattle.latch_law.proofs.Lists.{learnt_some, length-learnt}
use Rattle.latch_space.specs.Has.{Has, SameBut}
use Rattle.latch_space.specs.Passes.{view, values, Lacks, Shows}
use Rattle.latch_space.proofs.Pointwise.{has_still}
use Rattle.index_law.specs.Shape.{Shape}
use Rattle.forest_law.specs.declared.objects.Frame.{Frame}
use Rattle.forest_law.specs.declared.objects.Pool.{Pool}
use Rattle.forest_law.specs.declared.objects.Tree.{Tree}
use Rattle.forest_law.specs.declared.objects.Object.{Object}
use Rattle.forest_law.specs.declared.objects.Object.TheVariants as object
use Rattle.forest_law.specs.Numbers.{pool_id, tree_id, frame_id}
use Rattle.forest_law.specs.Steps.{Rests}
use Rattle.forest_world.specs.Held.{TreePass, shape_of_pass, HasFrame, HasTree, HasPool}
use Rattle.buffer_pool.specs.Hands.{LacksFrame, HasOut, KeepsBeside, KeepsBesideTree, KeepsBesidePool, KeepsRest, KeepsRestBut}

module _ (p q : TreePass) (k : ℕ) (terms : (view q).terms ≡ (view p).terms)
    (others : SameBut p q k) where
  same_shape : shape_of_pass p ≡ shape_of_pass q
  same_shape = ap (λ (t : Terms Shape). t.shape) (sym terms)

  frame_kept : (c : ℕ) (f g : Frame) → frame_id (shape_of_pass p) c ≢ k → HasFrame p c f g
      → HasFrame q c f g
  frame_kept c f g apart has =
      subst (λ (s : Shape). Has q (frame_id s c) (object.Frame f) (object.Frame g)) same_shape
      (has_still p q k (frame_id (shape_of_pass p) c) (object.Frame f) (object.Frame g) others
      apart has)

  pub out_kept : (c : ℕ) (f : Frame) → frame_id (shape_of_pass p) c ≢ k → HasOut p c f → HasOut q c
      f
  out_kept c f apart out = let o = others (frame_id (shape_of_pass p) c) apart in
      let n = ap (λ (s : Shape). frame_id s c) (sym same_shape) in
      record {
        held = (out.held.0, ap (get_elem? (view q).held) n ∙ (o.0 ∙ out.held.1));
        out = ap (get_elem? (values q)) n ∙ (o.1 ∙ out.out);
      }

  lacks_kept : (c : ℕ) → frame_id (shape_of_pass p) c ≢ k → LacksFrame p c → LacksFrame q c
  lacks_kept c apart lacks =
      subst (λ (s : Shape). Lacks q (frame_id s c)) same_shape
      ((others (frame_id (shape_of_pass p) c) apart).0 ∙ lacks)

  tree_kept : (i : ℕ) (t u : Tree) → tree_id i ≢ k → HasTree p i t u → HasTree q i t u
  tree_kept i t u apart has =
      has_still p q k (tree_id i) (object.Tree t) (object.Tree u) others apart has

  pool_kept : (x y : Pool) → pool_id ≢ k → HasPool p x y → HasPool q x y
  pool_kept x y apart has =
      has_still p q k pool_id (object.Pool x) (object.Pool y) others apart has

  -- what rests stays at rest, where the one object rests or isn't held
  pub rest_kept : ((h : Holding Object) → Holds (view q) k h
      → (x : Object) × Shows q k x × Rests h.known x) → KeepsRest p q
  rest_kept own ks rest j h apart held = elim (cases_eq j k) [
    | inl e ↦ (let r = own h (ap (get_elem? (view q).held) (sym e) ∙ held) in
        (r.0, ap (get_elem? (values q)) e ∙ r.1, r.2))
    | inr ne ↦ (let o = others j ne in let r = rest j h apart (sym o.0 ∙ held) in
        (r.0, o.1 ∙ r.1, r.2))
  ]

  -- and what rests beyond it does so, whatever it becomes
  pub rest_but : KeepsRestBut p q k
  rest_but ks among rest j h apart held = let differs : j ≢ k =
      λ e. among (subst (λ (m : ℕ). AllByRecursion (λ (i : ℕ). m ≢ i) ks) e apart) in
      let o = others j differs in let r = rest j h apart (sym o.0 ∙ held) in
      (r.0, o.1 ∙ r.1, r.2)

module _ (p q : TreePass) (terms : (view q).terms ≡ (view p).terms) where
  -- beside a frame
  pub keeps_beside : (b : ℕ) → SameBut p q (frame_id (shape_of_pass p) b) → KeepsBeside p q b
  keeps_beside b others = record {
    terms = terms;
    others = others;
    frames = λ c f g differs has. frame_kept p q (frame_id (shape_of_pass p) b) terms others c f g
        (λ e. differs (omega (arith, e))) has;
    outs = λ c f differs out. out_kept p q (frame_id (shape_of_pass p) b) terms others c f
        (λ e. differs (omega (arith, e))) out;
    lacks = λ c differs lacks. lacks_kept p q (frame_id (shape_of_pass p) b) terms others c
        (λ e. differs (omega (arith, e))) lacks;
    trees = λ i t u below has. tree_kept p q (frame_id (shape_of_pass p) b) terms others i t u
        (λ e. omega (arith, e, below)) has;
    pool = λ x y has. pool_kept p q (frame_id (shape_of_pass p) b) terms others x y
        (λ e. omega (arith, e)) has;
  }

  -- beside the pool
  pub keeps_beside_pool : SameBut p q pool_id → KeepsBesidePool p q
  keeps_beside_pool others = record {
    terms = terms;
    others = others;
    frames = λ c f g has. frame_kept p q pool_id terms others c f g (λ e. omega (arith, e)) has;
    lacks = λ c lacks. lacks_kept p q pool_id terms others c (λ e. omega (arith, e)) lacks;
    trees = λ i t u has. tree_kept p q pool_id terms others i t u (λ e. omega (arith, e)) has;
  }

  -- beside a tree
  pub keeps_beside_tree : (i : ℕ) → i < (shape_of_pass p).indexes → SameBut p q (tree_id i)
      → KeepsBesideTree p q i
  keeps_beside_tree i below others = record {
    terms = terms;
    others = others;
    frames = λ c f g has. frame_kept p q (tree_id i) terms others c f g
        (λ e. omega (arith, e, below)) has;
    lacks = λ c lacks. lacks_kept p q (tree_id i) terms others c (λ e. omega (arith, e, below))
        lacks;
    trees = λ j t u differs has. tree_kept p q (tree_id i) terms others j t u
        (λ e. differs (omega (arith, e))) has;
    pool = λ x y has. pool_kept p q (tree_id i) terms others x y (λ e. omega (arith, e)) has;
  }

-- what is known is learnt as it is
pub learnt_same : (vs : List (Option Object)) (hs : List (Option (Holding Object))) (k : ℕ)
    → ((h : Holding Object) → get_elem? hs k ≡ some (Some h)
    → get_elem? vs k ≡ some (Some h.known))
    → (get_elem? hs k ≡ some None → get_elem? (learnt vs hs) k ≡ some None)
    → get_elem? (learnt vs hs) k ≡ get_elem? hs k
learnt_same vs hs k known lacked = pick (get_elem? hs k) refl (get_elem? (learnt vs hs) k) refl
  where
    past : get_elem? hs k ≡ maybe.none → (h : Option (Holding Object))
        → get_elem? (learnt vs hs) k ≡ some h → ⊥
    past e h f = let room = inside (learnt vs hs) k h f in
        let a = there hs k (omega (arith, room, length-learnt vs hs)) in
        absurd (maybe_not a.0 (sym e ∙ a.1))
      where
        maybe_not : (h : Option (Holding Object)) → maybe.none ≡ some h → ⊥
        maybe_not h e = absurd cc

    pick : (o : maybe.Option (Option (Holding Object))) → get_elem? hs k ≡ o
        → (l : maybe.Option (Option (Holding Object))) → get_elem? (learnt vs hs) k ≡ l
        → get_elem? (learnt vs hs) k ≡ get_elem? hs k
    pick (some (Some h)) e l f = learnt_some vs hs k h h.known e (known h e) ∙ sym e
    pick (some None) e l f = lacked e ∙ sym e
    pick maybe.none e maybe.none f = f ∙ sym e
    pick maybe.none e (some h) f = absurd (past e h f)
