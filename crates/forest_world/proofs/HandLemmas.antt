-- What is in hand makes the steps that the law asks for.
use Rattle.std.proofs.Common.{◌≢◌, ℕ, [], ◌∷◌, inl, inr, List, map, sym, ap, subst, ◌∙◌, arith, refl, Some}
use Rattle.std.specs.List.{AllByRecursion}
use Rattle.std.proofs.lemmas.Bool.{cases_eq}
use mathlib.Core.Option.{some-injective}
use lib.ListN.{get_elem?}
use Rattle.list_facts.proofs.Places.{same_some}
use Rattle.latch_law.specs.Views.{holding}
use Rattle.latch_law.proofs.Lists.{known_at, known_back}
use Rattle.latch_space.specs.Has.{Has}
use Rattle.latch_space.specs.Passes.{view, values, known_values, IsWhole, Shows}
use Rattle.forest_law.specs.declared.objects.Pool.{Pool}
use Rattle.forest_law.specs.declared.objects.Object.{Object}
use Rattle.forest_law.specs.declared.objects.Object.TheVariants as object
use Rattle.forest_law.specs.Numbers.{pool_id, tree_id, frame_id}
use Rattle.forest_law.specs.Objects.{Becomes}
use Rattle.forest_law.specs.Steps.{InHand, FrameStep, TreeStep, Rests, MakesFrameStep, MakesTreeStep, IsNoFrameOf, IsNoTreeOf, MakeSteps}
use Rattle.forest_law.specs.PoolSteps.{PoolStep}
use Rattle.forest_world.specs.Held.{TreePass, shape_of_pass, RestsBeyond, HandStep, HandTree, ids_of, HandSteps, HandPool}
use Rattle.forest_world.specs.HandLaws.{HandsMakeSteps, PoolInHand, HandsChangeThePool, KnownIsAtRest}

-- an object that is what it was is at rest
pub rests_itself : (x : Object) → Rests x x
rests_itself (object.Frame f) = record { page = refl; low = refl; high = refl; clock = omega arith }
rests_itself (object.Part p) = tt
rests_itself (object.Pool p) = record { places = refl; images = refl; ages = refl }
rests_itself (object.Tree t) = refl

module _ (p : TreePass) where
  abbrev ids : List FrameStep → List TreeStep → List ℕ
  ids = ids_of (shape_of_pass p)

  -- an object in hand was known and is in hand
  pub becomes_of : (k : ℕ) (m x : Object) → Has p k m x → Becomes (known_values p) (values p) k m x
  becomes_of k m x has = (known_at (view p).held k (holding has.held.0 m) has.held.1, has.value)

  -- an object that plays no part rests
  pub rests_of : (ks : List ℕ) → RestsBeyond p ks → (k : ℕ) (x y : Object)
      → Becomes (known_values p) (values p) k x y → AllByRecursion (λ (j : ℕ). k ≢ j) ks → Rests x y
  rests_of ks rest k x y b apart = let h = known_back (view p).held k x b.0 in
      let r = rest k h.0 apart h.1 in
      subst (λ z. Rests z y) h.2
      (subst (Rests h.0.known)
      (same_some r.0 y (some-injective (Some r.0) (Some y) (sym r.1 ∙ b.1))) r.2)

  frames_make : (steps : List FrameStep) → AllByRecursion (HandStep p) steps
      → AllByRecursion (MakesFrameStep (shape_of_pass p) (known_values p) (values p)) steps
  frames_make [] a = tt
  frames_make (s ∷ ss) a = (
    record {
      becomes = becomes_of (frame_id (shape_of_pass p) s.hand.block) (object.Frame s.hand.old)
          (object.Frame s.hand.new) a.0.in_hand;
      had = a.0.had;
      has = a.0.has;
      order = a.0.order;
    },
    frames_make ss a.1,
  )

  trees_make : (trees : List TreeStep) → AllByRecursion (HandTree p) trees
      → AllByRecursion (MakesTreeStep (known_values p) (values p)) trees
  trees_make [] a = tt
  trees_make (t ∷ ts) a = (
    record {
      becomes = becomes_of (tree_id t.index) (object.Tree t.old) (object.Tree t.new) a.0.in_hand;
      index = a.0.index;
      root = a.0.root;
    },
    trees_make ts a.1,
  )

  -- a number of none of the trees, and of none of the frames either
  tree_ids : (k : ℕ) (trees : List TreeStep) → IsNoTreeOf k trees
      → AllByRecursion (λ (j : ℕ). k ≢ j) (map (λ (t : TreeStep). tree_id t.index) trees)
  tree_ids k [] a = tt
  tree_ids k (t ∷ ts) a = (a.0, tree_ids k ts a.1)

  apart_of : (k : ℕ) (frames : List FrameStep) (trees : List TreeStep)
      → IsNoFrameOf (shape_of_pass p) k frames → IsNoTreeOf k trees
      → AllByRecursion (λ (j : ℕ). k ≢ j) (ids frames trees)
  apart_of k [] trees a b = tree_ids k trees b
  apart_of k (s ∷ ss) trees a b = (a.0, apart_of k ss trees a.1 b)

  -- what is not among the trees that make steps shows, and so do these
  shown_trees : (ts : List TreeStep) → AllByRecursion (HandTree p) ts → (k : ℕ)
      → (AllByRecursion (λ (j : ℕ). k ≢ j) (map (λ (t : TreeStep). tree_id t.index) ts)
      → (x : Object) × Shows p k x) → (x : Object) × Shows p k x
  shown_trees [] a k f = f tt
  shown_trees (t ∷ ts) a k f = elim (cases_eq k (tree_id t.index)) [
    | inl e ↦ (object.Tree t.new, ap (get_elem? (values p)) e ∙ a.0.in_hand.value)
    | inr ne ↦ shown_trees ts a.1 k (λ rest. f (ne, rest))
  ]

  -- and so it is with the frames
  shown : (ss : List FrameStep) (ts : List TreeStep) → AllByRecursion (HandStep p) ss
      → AllByRecursion (HandTree p) ts → (k : ℕ)
      → (AllByRecursion (λ (j : ℕ). k ≢ j) (ids ss ts) → (x : Object) × Shows p k x)
      → (x : Object) × Shows p k x
  shown [] ts a b k f = shown_trees ts b k f
  shown (s ∷ ss) ts a b k f = elim (cases_eq k (frame_id (shape_of_pass p) s.hand.block)) [
    | inl e ↦ (object.Frame s.hand.new, ap (get_elem? (values p)) e ∙ a.0.in_hand.value)
    | inr ne ↦ shown ss ts a.1 b k (λ rest. f (ne, rest))
  ]

  module _ (frames : List FrameStep) (trees : List TreeStep) (hand : HandSteps p frames trees) where
    -- what is in hand makes the steps
    pub hand_makes : MakeSteps (shape_of_pass p) (known_values p) (values p) frames trees
    hand_makes = record {
      each = frames_make frames hand.each;
      tops = trees_make trees hand.tops;
      others = λ k x y b apart aside. rests_of (ids frames trees) hand.others k x y b
          (apart_of k frames trees apart aside);
    }

    -- and nothing is taken out
    pub hand_whole : IsWhole p
    hand_whole k h held = shown frames trees hand.each hand.tops k
        (λ apart. (let r = hand.others k h apart held in (r.0, r.1)))

pub hands_make_steps : HandsMakeSteps
hands_make_steps p frames trees hand =
    record { make = hand_makes p frames trees hand; whole = hand_whole p frames trees hand }

module _ (p : TreePass) (number : ℕ) (old new : Pool) (hand : InHand)
    (change : HandPool p number old new hand) where
  -- the step of the pool
  pool_step : PoolStep (shape_of_pass p) (known_values p) (values p) number hand old new
  pool_step = record {
    pool = becomes_of p pool_id (object.Pool old) (object.Pool new) change.pool;
    frame = becomes_of p (frame_id (shape_of_pass p) hand.block) (object.Frame hand.old)
        (object.Frame hand.new) change.frame;
    counted = change.counted;
    elsewhere = change.elsewhere;
    others = λ k x y b apart aside. rests_of p
        (pool_id ∷ frame_id (shape_of_pass p) hand.block ∷ []) change.others k x y b
        (apart, (aside, tt));
  }

  -- nothing is taken out
  pool_whole : IsWhole p
  pool_whole k h held = elim (cases_eq k pool_id) [
    | inl e ↦ (object.Pool new, ap (get_elem? (values p)) e ∙ change.pool.value)
    | inr apart ↦ elim (cases_eq k (frame_id (shape_of_pass p) hand.block)) [
      | inl e ↦ (object.Frame hand.new, ap (get_elem? (values p)) e ∙ change.frame.value)
      | inr aside ↦ (let r = change.others k h (apart, (aside, tt)) held in (r.0, r.1))
    ]
  ]

  pub pool_in_hand : PoolInHand p number old new hand
  pool_in_hand = record { step = pool_step; whole = pool_whole }

pub hands_change_the_pool : HandsChangeThePool
hands_change_the_pool = pool_in_hand

pub known_is_at_rest : KnownIsAtRest
known_is_at_rest = record {
  itself = rests_itself;
  beyond = λ p ks known j h apart held. (h.known, known j h apart held, rests_itself h.known);
}
