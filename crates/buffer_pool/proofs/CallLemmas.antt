-- What each call on a frame, the pool or a tree does, where each object in hand is what it is known
-- to be, and one call behind the other.
use Rattle.std.proofs.Common.{◌≡◌, ◌≢◌, ℕ, List, [], ◌∷◌, ◌++◌, sym, ap, subst, ◌∙◌, refl, Some}
use Rattle.std.specs.List.{AllByRecursion}
use lib.ListN.{get_elem?}
use Rattle.latch_law.specs.declared.knows.Terms.{Terms}
use Rattle.latch_law.specs.Rule.{Holds}
use Rattle.latch_law.specs.Views.{holding}
use Rattle.latch_space.specs.Has.{Has, IsKnown}
use Rattle.latch_space.specs.Passes.{view, Lacks}
use Rattle.latch_space.proofs.Pointwise.{took_known, gave_known}
use Rattle.index_law.specs.Shape.{Shape}
use Rattle.forest_law.specs.declared.objects.Frame.{Frame}
use Rattle.forest_law.specs.declared.objects.Pool.{Pool}
use Rattle.forest_law.specs.declared.objects.Tree.{Tree}
use Rattle.forest_law.specs.declared.objects.Object.{Object}
use Rattle.forest_law.specs.declared.objects.Object.TheVariants as object
use Rattle.forest_law.specs.Numbers.{pool_id, tree_id, frame_id}
use Rattle.forest_world.specs.Held.{TreePass, shape_of_pass, HasFrame, HasTree, HasPool}
use Rattle.call_law.specs.Hands.{KnowsFrame, KnowsTree, HoldsTheRest}
use Rattle.call_law.specs.Trace.{Added, Adds, SparesTrees}
use Rattle.call_law.proofs.TraceLemmas.{both_added, adds_both}
use Rattle.buffer_pool.specs.Calls.{Does, DoesSilently}
use Rattle.buffer_pool.specs.Frames.{TakesFrame, RefusesFrame, GivesFrame}
use Rattle.buffer_pool.specs.Pools.{TakesPool, GivesPool}
use Rattle.buffer_pool.specs.Trees.{TakesTree, GivesTree}
use Rattle.buffer_pool.proofs.AddedLemmas.{none_added, only_refused, only_given, held_adds, took_adds, tried_adds, gave_adds, rest_none, rest_more, rest_again, rest_both, rest_but_one, pool_no_tree, frame_no_tree, tries_spare, given_spares, none_spares, spares_both}

-- the pass has added this and holds the rest of what it held, beside the objects of these numbers;
-- a tree may be among what was added
pub record DoesAny (p q : TreePass) (ks : List ℕ) (added : Added) : Type 0 where
  pub adds : Adds (view p) (view q) added
  pub rest : HoldsTheRest (view p) (view q) ks
  pub known : IsKnown q

-- a call that spares the trees
pub does_any : (p q : TreePass) (ks : List ℕ) (a : Added) → Does p q ks a → DoesAny p q ks a
does_any p q ks a does = record { adds = does.adds; rest = does.rest; known = does.known }

pub does_any_both : (p q r : TreePass) (ks : List ℕ) (a b : Added) → DoesAny p q ks a
    → DoesAny q r ks b → DoesAny p r ks (both_added a b)
does_any_both p q r ks a b first second = record {
  adds = adds_both (view p) (view q) (view r) a b first.adds second.adds;
  rest = rest_both (view p) (view q) (view r) ks first.rest second.rest;
  known = second.known;
}

module _ (p q r : TreePass) (ks : List ℕ) where
  -- one call behind the other
  pub does_both : (a b : Added) → Does p q ks a → Does q r ks b → Does p r ks (both_added a b)
  does_both a b first second = record {
    adds = adds_both (view p) (view q) (view r) a b first.adds second.adds;
    spares = spares_both (shape_of_pass p) a b first.spares
        (subst (λ (t : Terms Shape). SparesTrees t.shape b) first.adds.numbers.terms second.spares);
    rest = rest_both (view p) (view q) (view r) ks first.rest second.rest;
    known = second.known;
  }

  pub silently_both : DoesSilently p q ks → DoesSilently q r ks → DoesSilently p r ks
  silently_both first second = record {
    added = both_added first.added second.added;
    does = does_both first.added second.added first.does second.does;
    silent = λ k. first.silent k ++ second.silent k;
  }

module _ (p q : TreePass) (a : Added) where
  -- a call does so beside more objects
  pub does_more : (k : ℕ) (ks : List ℕ) → Does p q ks a → Does p q (k ∷ ks) a
  does_more k ks does = assumption (rest_more (view p) (view q) k ks does.rest)

  pub does_none : (ks : List ℕ) → Does p q [] a → Does p q ks a
  does_none ks does = assumption (rest_none (view p) (view q) ks does.rest)

  -- and beside any objects that these are among
  pub does_among : (ks js : List ℕ) → ((j : ℕ) → AllByRecursion (λ (k : ℕ). j ≢ k) js
      → AllByRecursion (λ (k : ℕ). j ≢ k) ks) → Does p q ks a → Does p q js a
  does_among ks js among does = record {
    adds = does.adds;
    spares = does.spares;
    rest = λ j apart. does.rest j (among j apart);
    known = does.known;
  }

  -- and not beside an object that is held as before, or lacked as before
  pub does_again : (k : ℕ) (ks : List ℕ) → Does p q (k ∷ ks) a
      → get_elem? (view q).held k ≡ get_elem? (view p).held k → Does p q ks a
  does_again k ks does same = assumption (rest_again (view p) (view q) k ks does.rest same)

-- nothing was done
pub does_nothing : (p : TreePass) → IsKnown p → DoesSilently p p []
does_nothing p known = record {
  added = none_added;
  does = record {
    adds = held_adds (view p) (view p) (view p).held refl;
    spares = none_spares (shape_of_pass p);
    rest = λ k apart. refl;
    known = known;
  };
  silent = refl;
}

-- what is in hand, and what is known of it, where each object is what it is known to be
module _ (p : TreePass) (known : IsKnown p) where
  pub frame_has : (b : ℕ) (f : Frame) → KnowsFrame (view p) b f → HasFrame p b f f
  frame_has b f knows = record {
    held = knows;
    value = known (frame_id (shape_of_pass p) b) (holding knows.0 (object.Frame f)) knows.1;
  }

  pub tree_has : (i : ℕ) (t : Tree) → KnowsTree (view p) i t → HasTree p i t t
  tree_has i t knows = record {
    held = knows;
    value = known (tree_id i) (holding knows.0 (object.Tree t)) knows.1;
  }

  pub pool_has : (t : Object) (x : Pool) → Holds (view p) pool_id (holding t (object.Pool x))
      → HasPool p x x
  pool_has t x held =
      record { held = (t, held); value = known pool_id (holding t (object.Pool x)) held }

-- and back
pub frame_knows : (p : TreePass) (b : ℕ) (f g : Frame) → HasFrame p b f g
    → KnowsFrame (view p) b f
frame_knows p b f g has = has.held

pub tree_knows : (p : TreePass) (i : ℕ) (t u : Tree) → HasTree p i t u → KnowsTree (view p) i t
tree_knows p i t u has = has.held

-- one object was taken, or given back
module _ (p q : TreePass) (known : IsKnown p) where
  -- a frame was taken
  pub took_frame : (b : ℕ) → (took : TakesFrame p b q)
      → Does p q (frame_id (shape_of_pass p) b ∷ []) (only_refused took.refused)
  took_frame b took = let k = frame_id (shape_of_pass p) b in record {
    adds = took_adds (view p) (view q) took.refused k
        (Some (holding (object.Frame took.frame) (object.Frame took.frame))) took.view;
    spares = tries_spare (shape_of_pass p) (view p) k took.refused took.tries
        (frame_no_tree (shape_of_pass p) b);
    rest = rest_but_one p q k took.hand.others;
    known = took_known p q k (object.Frame took.frame)
        (record {
          has = subst
              (λ (t : Terms Shape). Has q (frame_id t.shape b) (object.Frame took.frame)
              (object.Frame took.frame)) took.hand.terms took.has;
          others = took.hand.others;
          count = took.count;
        }) known;
  }

  -- a frame was another's
  pub refused_frame : (b n : ℕ) → RefusesFrame p b n q
      → Does p q [] (only_refused (record {
        object = frame_id (shape_of_pass p) b;
        holder = n;
        held = (view p).held;
      } ∷ []))
  refused_frame b n busy = record {
    adds = tried_adds (view p) (view q) (frame_id (shape_of_pass p) b) n busy.view;
    spares = record { refused = (frame_no_tree (shape_of_pass p) b, tt); references = tt };
    rest = λ k apart. ap (λ hs. get_elem? hs k) busy.same.held;
    known = λ j h held. ap (λ vs. get_elem? vs j) busy.same.values
        ∙ known j h (ap (λ hs. get_elem? hs j) (sym busy.same.held) ∙ held);
  }

  -- a frame was given back
  pub gave_frame : (b : ℕ) → (gave : GivesFrame p b q)
      → Does p q (frame_id (shape_of_pass p) b ∷ [])
      (only_given (frame_id (shape_of_pass p) b) gave.taken (object.Frame gave.frame))
  gave_frame b gave = let k = frame_id (shape_of_pass p) b in record {
    adds = gave_adds (view p) (view q) k (holding gave.taken (object.Frame gave.frame)) gave.view;
    spares = given_spares (shape_of_pass p) k gave.taken (object.Frame gave.frame)
        (frame_no_tree (shape_of_pass p) b);
    rest = rest_but_one p q k gave.hand.others;
    known = gave_known p q k
        (record {
          lacks = subst (λ (t : Terms Shape). Lacks q (frame_id t.shape b)) gave.hand.terms
              gave.lacks;
          others = gave.hand.others;
          count = gave.count;
        }) known;
  }

  -- the pool was taken
  pub took_pool : (took : TakesPool p q) → Does p q (pool_id ∷ []) (only_refused took.refused)
  took_pool took = record {
    adds = took_adds (view p) (view q) took.refused pool_id
        (Some (holding (object.Pool took.pool) (object.Pool took.pool))) took.view;
    spares = tries_spare (shape_of_pass p) (view p) pool_id took.refused took.tries
        (pool_no_tree (shape_of_pass p));
    rest = rest_but_one p q pool_id took.hand.others;
    known = took_known p q pool_id (object.Pool took.pool)
        (record { has = took.has; others = took.hand.others; count = took.count }) known;
  }

  -- and given back
  pub gave_pool : (gave : GivesPool p q)
      → Does p q (pool_id ∷ []) (only_given pool_id gave.taken (object.Pool gave.pool))
  gave_pool gave = record {
    adds = gave_adds (view p) (view q) pool_id (holding gave.taken (object.Pool gave.pool))
        gave.view;
    spares = given_spares (shape_of_pass p) pool_id gave.taken (object.Pool gave.pool)
        (pool_no_tree (shape_of_pass p));
    rest = rest_but_one p q pool_id gave.hand.others;
    known = gave_known p q pool_id
        (record { lacks = gave.lacks; others = gave.hand.others; count = gave.count }) known;
  }

  -- a tree was taken
  pub took_tree : (i : ℕ) → (took : TakesTree p i q)
      → DoesAny p q (tree_id i ∷ []) (only_refused took.refused)
  took_tree i took = record {
    adds = took_adds (view p) (view q) took.refused (tree_id i)
        (Some (holding (object.Tree took.tree) (object.Tree took.tree))) took.view;
    rest = rest_but_one p q (tree_id i) took.hand.others;
    known = took_known p q (tree_id i) (object.Tree took.tree)
        (record { has = took.has; others = took.hand.others; count = took.count }) known;
  }

  -- and given back
  pub gave_tree : (i : ℕ) → (gave : GivesTree p i q)
      → DoesAny p q (tree_id i ∷ []) (only_given (tree_id i) gave.taken (object.Tree gave.tree))
  gave_tree i gave = record {
    adds = gave_adds (view p) (view q) (tree_id i) (holding gave.taken (object.Tree gave.tree))
        gave.view;
    rest = rest_but_one p q (tree_id i) gave.hand.others;
    known = gave_known p q (tree_id i)
        (record { lacks = gave.lacks; others = gave.hand.others; count = gave.count }) known;
  }
