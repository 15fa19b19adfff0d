-- A block gets a new age: a step in which all is at rest.
use Rattle.std.proofs.Common.{◌≡◌, ◌≢◌, ℕ, ◌<◌, [], length, inl, inr, sym, ap, subst, ◌∙◌, arith, None}
use Rattle.std.proofs.lemmas.Bool.{cases_eq}
use lib.ListN.{get_elem?}
use Rattle.latch_law.specs.declared.knows.Holding.{Holding}
use Rattle.latch_law.specs.Rule.{Holds}
use Rattle.latch_law.specs.Views.{holding, learnt, settling}
use Rattle.latch_law.proofs.Lists.{learnt_some}
use Rattle.latch_space.specs.Has.{DidSettle, IsKnown}
use Rattle.latch_space.specs.Passes.{view, values, known_values, Shows}
use Rattle.latch_space.proofs.Pointwise.{learnt_known}
use Rattle.forest_law.specs.declared.objects.Pool.{Pool}
use Rattle.forest_law.specs.declared.objects.Object.{Object}
use Rattle.forest_law.specs.declared.objects.Object.TheVariants as object
use Rattle.forest_law.specs.Law.{Follows}
use Rattle.forest_law.specs.Numbers.{pool_id, frames_of}
use Rattle.forest_law.specs.Steps.{Rests}
use Rattle.forest_law.proofs.RowStepLemmas.{row_changes_follow}
use Rattle.forest_world.specs.Held.{TreePass, shape_of_pass, HasPool, RestsBeyond}
use Rattle.forest_world.specs.HandLaws.{StepsInHand}
use Rattle.forest_world.specs.HashHands.{HandsKeepTheHash}
use Rattle.forest_world.proofs.HandLemmas.{hands_make_steps, rests_itself}
use Rattle.buffer_pool.specs.Ages.{IsAged}
use Rattle.buffer_pool.specs.Forests.{TreeView, IsFittedTree}
use Rattle.buffer_pool.specs.Pools.{HasPoolOut, TakesPoolOut, PutsPoolBack}
use Rattle.buffer_pool.specs.Tries.{KnowsPool}
use Rattle.buffer_pool.specs.Turning.{SetsAge}
use Rattle.buffer_pool.proofs.AddedLemmas.{held_adds, none_spares}
use Rattle.buffer_pool.proofs.CallLemmas.{pool_has}
use Rattle.buffer_pool.proofs.FrameLemmas.{one_held}
use Rattle.buffer_pool.proofs.HashRestLemmas.{pool_rests}
use Rattle.buffer_pool.proofs.KnownLemmas.{ages_counted}
use Rattle.buffer_pool.proofs.PutLemmas.{aged_rests}
use Rattle.buffer_pool.proofs.KeepLemmas.{learnt_same}

module _ (p p1 : TreePass) (known : IsKnown p) (pool : Pool) (out : TakesPoolOut p pool p1)
    (t : Object) (x : Pool) (held : KnowsPool (view p) t x) where
  pool_was : HasPoolOut p1 x × (pool ≡ x)
  pool_was = out.out x x (pool_has p known t x held)

  -- the pool is out
  pub aged_out : HasPoolOut p1 x
  aged_out = pool_was.0

  -- and the block has an age
  pub aged_room : IsFittedTree (view p) → (b : ℕ) → b < frames_of (shape_of_pass p)
      → b < length pool.ages
  aged_room fitted b below =
      let counted = ages_counted fitted.whole fitted.is_lawful (view p) fitted.fits t x held in
      let e = ap (λ (z : Pool). length z.ages) pool_was.1 in omega (arith, below, counted, e)

  module _ (b : ℕ) (y : Pool) (touched : IsAged pool b y) (p2 : TreePass)
      (back : PutsPoolBack p1 y p2) where
    aged : IsAged x b y
    aged = subst (λ (z : Pool). IsAged z b y) pool_was.1 touched

    same_view : view p2 ≡ view p
    same_view = back.view ∙ out.view

    has_pool : HasPool p2 x y
    has_pool = back.has x pool_was.0

    -- all else is what it is known to be
    known_else : (j : ℕ) (h : Holding Object) → j ≢ pool_id → Holds (view p2) j h
        → Shows p2 j h.known
    known_else j h apart holds = (back.hand.others j apart).1
        ∙ ((out.hand.others j apart).1
        ∙ known j h (sym (ap (λ (v : TreeView). get_elem? v.held j) same_view) ∙ holds))

    all_rest : RestsBeyond p2 []
    all_rest j h apart holds = elim (cases_eq j pool_id) [
      | inl e ↦ (
        object.Pool y,
        ap (get_elem? (values p2)) e ∙ has_pool.value,
        subst (λ (g : Holding Object). Rests g.known (object.Pool y))
            (one_held p2 pool_id (holding has_pool.held.0 (object.Pool x)) h has_pool.held.1
            (ap (get_elem? (view p2).held) (sym e) ∙ holds))
            (aged_rests x b y aged),
      )
      | inr ne ↦ (h.known, known_else j h ne holds, rests_itself h.known)
    ]

    steps : StepsInHand p2 [] []
    steps = hands_make_steps p2 [] [] (record { each = tt; tops = tt; others = all_rest })

    -- the step follows
    pub age_follows : HandsKeepTheHash
        → Follows (shape_of_pass p2) (known_values p2) (values p2) None
    age_follows law =
        row_changes_follow.rest (shape_of_pass p2) (known_values p2) (values p2) steps.make
        (law.rests p2 (pool_rests p2 (λ j h apart holds. known_else j h apart.0 holds)))

    pub age_whole : (k : ℕ) (h : Holding Object) → Holds (view p2) k h
        → (z : Object) × Shows p2 k z
    age_whole = steps.whole

    -- and then the pool is known so
    pub sets_age : (q : TreePass) → DidSettle p2 q → SetsAge p b t x q
    sets_age q told = record {
      pool = y;
      tries = record {
        refused = [];
        does = record {
          adds = held_adds (view p) (view q) (learnt (values p2) (view p).held)
              (told.view ∙ ap (λ (v : TreeView). settling v (values p2)) same_view);
          spares = none_spares (shape_of_pass p);
          rest = λ k apart. ap (λ hs. get_elem? hs k) held_now
              ∙ (learnt_same (values p2) (view p2).held k (λ h holds. known_else k h apart.0 holds)
              (λ lacked. sym (ap (λ hs. get_elem? hs k) held_now) ∙ told.learnt.lacks k lacked)
              ∙ ap (λ (v : TreeView). get_elem? v.held k) same_view);
          known = learnt_known p2 q age_whole held_now told.learnt.values;
        };
      };
      knows = ap (λ hs. get_elem? hs pool_id) held_now
          ∙ learnt_some (values p2) (view p2).held pool_id (holding t (object.Pool x))
          (object.Pool y) (ap (λ (v : TreeView). get_elem? v.held pool_id) same_view ∙ held)
          has_pool.value;
      aged = aged;
      count = told.learnt.count ∙ (back.count ∙ out.count);
    }
      where
        held_now : (view q).held ≡ learnt (values p2) (view p2).held
        held_now = ap (λ (v : TreeView). v.held) told.view
