-- What a look at the pool for a free number leaves behind.
use Rattle.std.proofs.Common.{◌≡◌, ℕ, ◌<◌, [], ◌∷◌, ◌++◌, inl, sym, ap, subst, ◌∙◌, refl, arith, append-nil, Some}
use lib.ListN.{get_elem?}
use Rattle.latch_law.specs.declared.knows.Holding.{Holding}
use Rattle.latch_law.specs.Views.{holding}
use Rattle.latch_law.specs.Whole.{reference}
use Rattle.latch_space.specs.Has.{IsKnown}
use Rattle.latch_space.specs.Passes.{view}
use Rattle.index_page.specs.Page.{IsNeighbour}
use Rattle.index_law.specs.Shape.{Shape}
use Rattle.tree_law.specs.TreeShape.{In}
use Rattle.forest_law.specs.declared.objects.Pool.{Pool}
use Rattle.forest_law.specs.declared.objects.Where.TheVariants.{Free, InFrame}
use Rattle.forest_law.specs.declared.objects.Object.{Object}
use Rattle.forest_law.specs.declared.objects.Object.TheVariants as object
use Rattle.forest_law.specs.Numbers.{pool_id, frame_id}
use Rattle.forest_world.specs.Held.{TreePass, shape_of_pass, HasPool}
use Rattle.call_law.specs.Hands.{HoldsNoTable}
use Rattle.call_law.specs.Spoken.{spoken}
use Rattle.call_law.specs.Trace.{Added, AreGivenAt, fulls}
use Rattle.call_law.proofs.TraceLemmas.{both_added}
use Rattle.buffer_pool.specs.Calls.{Does, FindsFull}
use Rattle.buffer_pool.specs.Forests.{IsFittedTree}
use Rattle.buffer_pool.specs.FreeNumbers.{HoldsFree}
use Rattle.buffer_pool.specs.Looking.{GivesNothing}
use Rattle.buffer_pool.specs.NewPages.{IsLowestFree, HasNoneFree, FindsNoneFree}
use Rattle.buffer_pool.specs.Pools.{TakesPool, GivesPool}
use Rattle.buffer_pool.specs.Tries.{tries_and_given}
use Rattle.buffer_pool.specs.Victims.{HoldsRoom}
use Rattle.buffer_pool.proofs.AddedLemmas.{only_refused, only_given}
use Rattle.buffer_pool.proofs.AgainLemmas.{frames-append, gives_shape, gives_lacked}
use Rattle.buffer_pool.proofs.CallLemmas.{does_both, does_none, does_among, does_again, gave_pool}
use Rattle.buffer_pool.proofs.ClearLemmas.{victim_before}
use Rattle.buffer_pool.proofs.FrameLemmas.{one_held}
use Rattle.buffer_pool.proofs.GivingLemmas.{parts_no_frames, parts_leave, unchanged_leaves, leaves_both}
use Rattle.buffer_pool.proofs.GiveLemmas.{first, first_shape, pool_taken, lacks_before, lacks_then}
use Rattle.buffer_pool.proofs.KnownLemmas.{places_counted}
use Rattle.buffer_pool.proofs.PoolLemmas.{same_pool}
use Rattle.buffer_pool.proofs.VictimLemmas.{in_right, tried_right}

free_is_not : (b : ℕ) → Free ≡ InFrame b → ⊥
free_is_not b e = absurd cc

module _ (p p1 : TreePass) (known : IsKnown p) (lacks : HoldsNoTable (view p))
    (took : TakesPool p p1) where
  -- the pool that is looked at is the one that was taken
  pub found_is : (found : Pool) → ((x y : Pool) → HasPool p1 x y → found ≡ y) → found ≡ took.pool
  found_is found is = is took.pool took.pool took.has

  -- no number was free, and that was said
  module _ (p2 p3 : TreePass) (i : ℕ) (full : FindsFull p1 i p2) (none : HasNoneFree took.pool)
      (gave : GivesPool p2 p3) where
    abbrev all : Added
    all = both_added (both_added (only_refused took.refused) full.added)
        (only_given pool_id gave.taken (object.Pool gave.pool))

    all_does : Does p p3 [] all
    all_does = does_again p p3 all pool_id []
        (does_both p p2 p3 (pool_id ∷ []) (both_added (only_refused took.refused) full.added)
        (only_given pool_id gave.taken (object.Pool gave.pool))
        (does_both p p1 p2 (pool_id ∷ []) (only_refused took.refused) full.added
        (first p p1 known lacks took) (does_none p1 p2 full.added (pool_id ∷ []) full.does))
        (gave_pool p2 p3 full.does.known gave)) (gave.lacks ∙ sym lacks.pool)

    gave_is : holding gave.taken (object.Pool gave.pool)
        ≡ holding (object.Pool took.pool) (object.Pool took.pool)
    gave_is = one_held p2 pool_id (holding gave.taken (object.Pool gave.pool))
        (holding (object.Pool took.pool) (object.Pool took.pool)) gave.held
        (full.does.rest pool_id tt ∙ pool_taken p p1 known lacks took)

    pub finds_none : FindsNoneFree p i p3
    finds_none = let said = append-nil full.added.said in record {
      full = record {
        added = all;
        does = all_does;
        given = subst (AreGivenAt i (view p).low) (sym said)
            (subst (λ n. AreGivenAt i n full.added.said)
            (first p p1 known lacks took).adds.numbers.low full.given);
        silent = ap spoken said ∙ full.silent;
        places = full.places;
        full = ap fulls said ∙ full.full;
        count = (let b = took.count in let c = full.count in let d = gave.count in
            omega (arith, b, c, d));
      };
      pool = took.pool;
      held = record {
        now = gave.pool;
        among = subst
            (λ t. In (reference pool_id t (object.Pool gave.pool)) all.references)
            (ap (λ (h : Holding Object). h.taken) gave_is)
            (in_right (reference pool_id gave.taken (object.Pool gave.pool))
            full.added.references
            (reference pool_id gave.taken (object.Pool gave.pool) ∷ []) (inl refl));
      };
      none = none;
      same = same_pool gave.pool took.pool (ap (λ (h : Holding Object). h.known) gave_is);
    }

  -- the lowest number that was free, and a frame for its page
  pub holds_free : (n b : ℕ) (q : TreePass) → IsFittedTree (view p1) → IsNeighbour (Some n)
      → IsLowestFree took.pool n → HoldsRoom p1 b (object.Pool took.pool) took.pool q
      → HoldsFree p n b q
  holds_free n b q fitted named lowest room =
      let counted = places_counted fitted.whole fitted.is_lawful (view p1) fitted.fits
      (object.Pool took.pool) took.pool (pool_taken p p1 known lacks took) in
      let shape = first_shape p p1 known lacks took in
      let ks = pool_id ∷ frame_id (shape_of_pass p) b ∷ [] in
      let a = only_refused took.refused in let c = tries_and_given room.tries.refused
      room.tries.references in
      record {
        silently = record {
          added = both_added a c;
          does = does_both p p1 q ks a c
              (does_among p p1 a (pool_id ∷ []) ks (λ j apart. (apart.0, tt))
              (first p p1 known lacks took))
              (subst (λ (s : Shape). Does p1 q (pool_id ∷ frame_id s b ∷ []) c) shape
              room.tries.does);
          silent = refl;
        };
        none = parts_no_frames room.tries.references room.tries.parts;
        unchanged = parts_leave room.tries.references room.tries.parts;
        pool = took.pool;
        now = room.pool;
        held = room.knew;
        lowest = lowest;
        free = room.clears.keeps n (λ e. free_is_not b (sym lowest.free ∙ e)) ∙ lowest.free;
        took = victim_before p p1 shape (lacks_then p p1 known lacks took) room.tries.refused
            (took.refused ++ room.tries.refused)
            (λ k. tried_right k took.refused room.tries.refused) took.pool b room.took;
        clears = room.clears;
        below = subst (λ (s : Shape). n < s.pages) shape
            (let below = lowest.below in omega (arith, counted, below));
        named = named;
        lacked = lacks_before p p1 known lacks took b room.lacked;
        frame = room.frame;
        knows = room.knows;
        empty = room.empty;
        count = (let x = took.count in let y = room.count in omega (arith, x, y));
      }

-- looks that found nothing, and then a number and a frame, or none
module _ (p q r : TreePass) (gives : GivesNothing p q) where
  abbrev a : Added
  a = gives.got.silently.added

  pub gives_free : (n b : ℕ) → HoldsFree q n b r → HoldsFree p n b r
  gives_free n b free = let c = free.silently.added in let shape = gives_shape p q gives in
      let ks = pool_id ∷ frame_id (shape_of_pass p) b ∷ [] in record {
        silently = record {
          added = both_added a c;
          does = does_both p q r ks a c (does_none p q a ks gives.got.silently.does)
              (subst (λ (s : Shape). Does q r (pool_id ∷ frame_id s b ∷ []) c) shape
              free.silently.does);
          silent = λ k. gives.got.silently.silent k ++ free.silently.silent k;
        };
        none = frames-append a.references c.references ∙ (λ k. gives.none k ++ free.none k);
        unchanged = leaves_both a.references c.references
            (unchanged_leaves a.references gives.unchanged) free.unchanged;
        pool = free.pool;
        now = free.now;
        held = free.held;
        lowest = free.lowest;
        free = free.free;
        took = victim_before p q shape (gives_lacked p q gives) c.refused (a.refused ++ c.refused)
            (λ k. tried_right k a.refused c.refused) free.pool b free.took;
        clears = free.clears;
        below = subst (λ (s : Shape). n < s.pages) shape free.below;
        named = free.named;
        lacked = sym (gives.got.silently.does.rest (frame_id (shape_of_pass p) b) tt)
            ∙ (ap (λ (s : Shape). get_elem? (view q).held (frame_id s b)) (sym shape)
            ∙ free.lacked);
        frame = free.frame;
        knows = free.knows;
        empty = free.empty;
        count = (let x = gives.got.count in let y = free.count in omega (arith, x, y));
      }

  pub gives_full : (i : ℕ) → FindsNoneFree q i r → FindsNoneFree p i r
  gives_full i none =
      let c = none.full.added in
      let said : a.said ++ c.said ≡ c.said = (λ k. gives.got.silently.silent k ++ c.said) in
      record {
        full = record {
          added = both_added a c;
          does = does_both p q r [] a c gives.got.silently.does none.full.does;
          given = subst (AreGivenAt i (view p).low) (sym said)
              (subst (λ n. AreGivenAt i n c.said) gives.got.silently.does.adds.numbers.low
              none.full.given);
          silent = ap spoken said ∙ none.full.silent;
          places = none.full.places;
          full = ap fulls said ∙ none.full.full;
          count = none.full.count ∙ gives.got.count;
        };
        pool = none.pool;
        held = record {
          now = none.held.now;
          among = in_right
              (reference pool_id (object.Pool none.pool) (object.Pool none.held.now)) a.references
              c.references none.held.among;
        };
        none = none.none;
        same = none.same;
      }
