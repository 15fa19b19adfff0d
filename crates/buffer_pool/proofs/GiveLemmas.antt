-- The pool is taken, something is done with it in hand, and it is given back.
use Rattle.std.proofs.Common.{◌≡◌, ℕ, List, [], ◌∷◌, ◌++◌, inl, inr, sym, ap, subst, ◌∙◌, refl, arith, Some, None}
use lib.ListN.{get_elem?}
use Rattle.atomic_table.proofs.Lists.{set_here}
use Rattle.list_facts.proofs.Each.{each_append}
use Rattle.list_facts.proofs.Places.{inside}
use Rattle.latch_law.specs.declared.knows.Holding.{Holding}
use Rattle.latch_law.specs.declared.knows.Terms.{Terms}
use Rattle.latch_law.specs.Views.{holding}
use Rattle.latch_law.specs.Whole.{reference}
use Rattle.latch_space.specs.Has.{IsKnown}
use Rattle.latch_space.specs.Passes.{view}
use Rattle.index_law.specs.Shape.{Shape}
use Rattle.tree_law.specs.TreeShape.{In}
use Rattle.tree_law.specs.Pages.{Page}
use Rattle.forest_law.specs.declared.objects.Frame.{Frame}
use Rattle.forest_law.specs.declared.objects.Pool.{Pool}
use Rattle.forest_law.specs.declared.objects.Where.TheVariants.{Free}
use Rattle.forest_law.specs.declared.objects.Object.{Object}
use Rattle.forest_law.specs.declared.objects.Object.TheVariants as object
use Rattle.forest_law.specs.Numbers.{pool_id, frame_id}
use Rattle.forest_law.specs.State.{places_of, where_at, page_where}
use Rattle.forest_world.specs.Held.{TreePass, shape_of_pass}
use Rattle.call_law.specs.Hands.{KnowsFrame, HoldsNoPart, HoldsNoTable}
use Rattle.call_law.specs.Trace.{Added, frame_references}
use Rattle.call_law.proofs.TraceLemmas.{both_added}
use Rattle.buffer_pool.specs.declared.looking.Looked.{Looked}
use Rattle.buffer_pool.specs.declared.looking.Looked.TheVariants as looked
use Rattle.buffer_pool.specs.AsTaken.{HoldsAsTaken}
use Rattle.buffer_pool.specs.Calls.{Does}
use Rattle.buffer_pool.specs.Causes.{AreUnchanged, ChangesPoolSo, ChangesPoolOnce}
use Rattle.buffer_pool.specs.Forests.{TreeView}
use Rattle.buffer_pool.specs.Hands.{LacksFrame}
use Rattle.buffer_pool.specs.Looking.{HoldsPageToo, TellsLook, GivesNothing, TellsLookFor}
use Rattle.buffer_pool.specs.Pages.{IsLive, HoldsOtherPages, PagesIn}
use Rattle.buffer_pool.specs.Pools.{TakesPool, GivesPool}
use Rattle.buffer_pool.specs.Tries.{tries_alone, tries_and_given, TriesGivingParts, IsTried, KnowsPool}
use Rattle.buffer_pool.specs.Victims.{TriedInVain}
use Rattle.buffer_pool.proofs.AddedLemmas.{only_refused, only_given, frame_still, frame_before, parts_still}
use Rattle.buffer_pool.proofs.AgainLemmas.{frames-append, both_unchanged}
use Rattle.buffer_pool.proofs.AsTakenLemmas.{rest_as_taken}
use Rattle.buffer_pool.proofs.CallLemmas.{does_both, does_among, does_again, took_pool, gave_pool}
use Rattle.buffer_pool.proofs.ClearLemmas.{comes_before_too}
use Rattle.buffer_pool.proofs.FrameLemmas.{one_held}
use Rattle.buffer_pool.proofs.GivingLemmas.{parts_no_frames, parts_leave, leaves_once, giving_none}
use Rattle.buffer_pool.proofs.PageLemmas.{fits_before}
use Rattle.buffer_pool.proofs.TurnLemmas.{frame_not_pool}
use Rattle.buffer_pool.proofs.VictimLemmas.{in_left, in_right}

none_is_not : (page : Page) → None ≡ Some page → ⊥
none_is_not page e = absurd cc

module _ (p p1 : TreePass) (known : IsKnown p) (lacks : HoldsNoTable (view p))
    (took : TakesPool p p1) where
  pub first : Does p p1 (pool_id ∷ []) (only_refused took.refused)
  first = took_pool p p1 known took

  pub first_shape : shape_of_pass p1 ≡ shape_of_pass p
  first_shape = ap (λ (t : Terms Shape). t.shape) took.hand.terms

  -- the pool that was taken is known as it was then
  pub pool_taken : KnowsPool (view p1) (object.Pool took.pool) took.pool
  pool_taken = ap (λ (v : TreeView). get_elem? v.held pool_id) took.view
      ∙ set_here (view p).held pool_id
      (Some (holding (object.Pool took.pool) (object.Pool took.pool)))
      (inside (view p).held pool_id None lacks.pool)

  -- no partition is held still
  pub parts_then : HoldsNoPart (view p1)
  parts_then = parts_still (view p) (view p1) (pool_id ∷ []) first.adds.numbers first.rest
      (λ k below. ((λ e. omega (arith, e)), tt)) lacks.parts

  -- each page in hand is another still
  pub others_then : (n : ℕ) → HoldsOtherPages (view p) n → HoldsOtherPages (view p1) n
  others_then n others b f page knows = others b f page
      (frame_before (view p) (view p1) (pool_id ∷ []) first.adds.numbers first.rest b
      (frame_not_pool (shape_of_pass p) b, tt) f knows)

  -- a frame that is lacked was lacked
  pub lacks_before : (b : ℕ) → LacksFrame p1 b → LacksFrame p b
  lacks_before b lacked =
      sym (first.rest (frame_id (shape_of_pass p) b) (frame_not_pool (shape_of_pass p) b, tt))
      ∙ (ap (λ (s : Shape). get_elem? (view p1).held (frame_id s b)) (sym first_shape) ∙ lacked)

  -- and one that was lacked is lacked
  pub lacks_then : (b : ℕ) → LacksFrame p b → LacksFrame p1 b
  lacks_then b lacked = ap (λ (s : Shape). get_elem? (view p1).held (frame_id s b)) first_shape
      ∙ (first.rest (frame_id (shape_of_pass p) b) (frame_not_pool (shape_of_pass p) b, tt)
      ∙ lacked)

  -- a page whose number is free isn't there
  pub free_is_dead : (n : ℕ) → where_at took.pool.place.items n ≡ Free → IsLive (view p) n → ⊥
  free_is_dead n free live = let w = took.was.whole in
      let page = live w took.was.is_lawful
      (fits_before w (view p) took.refused took.was.fits) in
      none_is_not page.0
      (sym (ap (page_where w.shape w.objects n)
      (ap (λ o. where_at (places_of o) n) took.was.value ∙ free)) ∙ page.1)

  module _ (q1 q : TreePass) (ks : List ℕ) (tries : TriesGivingParts p1 q1 (pool_id ∷ ks)) (y :
      Pool)
      (knew : KnowsPool (view q1) (object.Pool took.pool) y) (gave : GivesPool q1 q) where
    -- what was added: tries, partitions given back, and one reference to the pool
    abbrev pub all_added : Added
    all_added = both_added
        (both_added (only_refused took.refused) (tries_and_given tries.refused tries.references))
        (only_given pool_id gave.taken (object.Pool gave.pool))

    last : Does q1 q (pool_id ∷ []) (only_given pool_id gave.taken (object.Pool gave.pool))
    last = gave_pool q1 q tries.does.known gave

    pub all_does : Does p q ks all_added
    all_does = let ls = pool_id ∷ ks in
        let d = tries_and_given tries.refused tries.references in
        let a = both_added (only_refused took.refused) d in
        let c = only_given pool_id gave.taken (object.Pool gave.pool) in
        does_again p q all_added pool_id ks
        (does_both p q1 q ls a c
        (does_both p p1 q1 ls (only_refused took.refused) d
        (does_among p p1 (only_refused took.refused) (pool_id ∷ []) ls
        (λ j apart. (apart.0, tt)) first) tries.does)
        (does_among q1 q c (pool_id ∷ []) ls (λ j apart. (apart.0, tt)) last))
        (gave.lacks ∙ sym lacks.pool)

    gave_is : holding gave.taken (object.Pool gave.pool)
        ≡ holding (object.Pool took.pool) (object.Pool y)
    gave_is = one_held q1 pool_id (holding gave.taken (object.Pool gave.pool))
        (holding (object.Pool took.pool) (object.Pool y)) gave.held knew

    -- which says that the pool was taken as it was, and given back as it is known
    pub pool_among : In (reference pool_id (object.Pool took.pool) (object.Pool y))
        all_added.references
    pool_among = in_right (reference pool_id (object.Pool took.pool) (object.Pool y))
        tries.references (reference pool_id gave.taken (object.Pool gave.pool) ∷ [])
        (inl (λ k. reference pool_id (sym gave_is k).taken (sym gave_is k).known))

    -- and was changed that once
    pub pool_once : ChangesPoolOnce took.pool y all_added.references
    pool_once = each_append (ChangesPoolSo took.pool y) tries.references
        (reference pool_id gave.taken (object.Pool gave.pool) ∷ [])
        (leaves_once took.pool y tries.references (parts_leave tries.references tries.parts))
        ((λ is. inr (λ k. reference pool_id (gave_is k).taken (gave_is k).known)), tt)

    -- no frame was given back
    pub no_frames : frame_references all_added.references ≡ []
    no_frames = frames-append tries.references
        (reference pool_id gave.taken (object.Pool gave.pool) ∷ [])
        ∙ (λ k. parts_no_frames tries.references tries.parts k ++ [])

    -- or not
    pub pool_unchanged : object.Pool took.pool ≡ object.Pool y → AreUnchanged tries.references
        → AreUnchanged all_added.references
    pool_unchanged same rest = both_unchanged tries.references
        (reference pool_id gave.taken (object.Pool gave.pool) ∷ []) rest (
          ap (λ (h : Holding Object). h.taken) gave_is
              ∙ (same ∙ sym (ap (λ (h : Holding Object). h.known) gave_is)),
          tt,
        )

    abbrev pub tried_among : (k : ℕ) → IsTried k tries.refused → IsTried k all_added.refused
    tried_among k tried = record {
      refusal = tried.refusal;
      among = in_left tried.refusal (took.refused ++ tries.refused) []
          (in_right tried.refusal took.refused tries.refused tried.among);
      object = tried.object;
    }

    -- a frame is known still
    pub frame_then : (b : ℕ) (f : Frame) → KnowsFrame (view q1) b f → KnowsFrame (view q) b f
    frame_then b f knows = frame_still (view q1) (view q) (pool_id ∷ []) last.adds.numbers
        last.rest b (frame_not_pool (shape_of_pass q1) b, tt) f knows

    -- and as it was taken still
    pub then_as_taken : (b : ℕ) → HoldsAsTaken (view q1) b → HoldsAsTaken (view q) b
    then_as_taken b = rest_as_taken (view q1) (view q) (pool_id ∷ []) last.adds.numbers last.rest b
        (frame_not_pool (shape_of_pass q1) b, tt)

  -- what a look found
  module _ (q1 q : TreePass) (gave : GivesPool q1 q) (n : ℕ) where
    looks_held : (b : ℕ) → HoldsPageToo p1 n b (object.Pool took.pool) took.pool q1
        → PagesIn p n b q
    looks_held b holds = let ks = frame_id (shape_of_pass p1) b ∷ [] in record {
      silently = record {
        added = all_added q1 q ks holds.tries holds.pool holds.knew gave;
        does = subst
            (λ (s : Shape). Does p q (frame_id s b ∷ [])
            (all_added q1 q ks holds.tries holds.pool holds.knew gave)) first_shape
            (all_does q1 q ks holds.tries holds.pool holds.knew gave);
        silent = refl;
      };
      none = no_frames q1 q ks holds.tries holds.pool holds.knew gave;
      lacked = lacks_before b holds.lacked;
      frame = holds.frame;
      knows = frame_then q1 q ks holds.tries holds.pool holds.knew gave b holds.frame holds.knows;
      has = holds.has;
      held_as_taken = then_as_taken q1 q ks holds.tries holds.pool holds.knew gave b
          holds.held_as_taken;
      inside = holds.inside;
      cause = record {
        pool = took.pool;
        held = record {
          now = holds.pool;
          among = pool_among q1 q ks holds.tries holds.pool holds.knew gave;
        };
        once = pool_once q1 q ks holds.tries holds.pool holds.knew gave;
        aged = holds.aged;
        how = comes_before_too p p1 first_shape lacks_then holds.tries.refused
            (all_added q1 q ks holds.tries holds.pool holds.knew gave).refused
            (tried_among q1 q ks holds.tries holds.pool holds.knew gave) took.pool n b holds.pool
            holds.how;
      };
      count = (let a = took.count in let c = holds.count in let d = gave.count in
          omega (arith, a, c, d));
    }

    -- where tries alone were made, the pool is known as it was taken
    pub pool_vain : (vain : TriedInVain p1 q1)
        → KnowsPool (view q1) (object.Pool took.pool) took.pool
    pool_vain vain = vain.tries.does.rest pool_id tt ∙ pool_taken

    abbrev pub more : (vain : TriedInVain p1 q1) → TriesGivingParts p1 q1 (pool_id ∷ [])
    more vain = giving_none p1 q1 (pool_id ∷ []) (record {
      refused = vain.tries.refused;
      does = does_among p1 q1 (tries_alone vain.tries.refused) [] (pool_id ∷ []) (λ j apart. tt)
          vain.tries.does;
    })

    abbrev pub vain_gives : TriedInVain p1 q1 → GivesNothing p q
    vain_gives vain = record {
      got = record {
        silently = record {
          added = all_added q1 q [] (more vain) took.pool (pool_vain vain) gave;
          does = all_does q1 q [] (more vain) took.pool (pool_vain vain) gave;
          silent = refl;
        };
        count = (let a = took.count in let c = vain.count in let d = gave.count in
            omega (arith, a, c, d));
      };
      none = refl;
      unchanged = pool_unchanged q1 q [] (more vain) took.pool (pool_vain vain) gave refl tt;
    }

    pub looks_for : (r : Looked) → TellsLook p1 (object.Pool took.pool) took.pool n r q1
        → TellsLookFor p n r q
    looks_for (looked.Held b) told = looks_held b told
    looks_for looked.Busy told = record {
      got = (vain_gives told.vain).got;
      none = refl;
      unchanged = (vain_gives told.vain).unchanged;
      block = told.block;
      taken = object.Pool took.pool;
      pool = took.pool;
      gave = pool_among q1 q [] (more told.vain) took.pool (pool_vain told.vain) gave;
      named = told.named;
      refused = told.tried.refusal;
      among = (tried_among q1 q [] (more told.vain) took.pool (pool_vain told.vain) gave
          (frame_id (shape_of_pass p1) told.block) told.tried).among;
      object = told.tried.object ∙ ap (λ (s : Shape). frame_id s told.block) first_shape;
    }
    looks_for looked.NoRoom told = vain_gives told
    looks_for looked.Free told = record {
      gives = vain_gives told.vain;
      gave = record {
        taken = object.Pool took.pool;
        pool = took.pool;
        among = pool_among q1 q [] (more told.vain) took.pool (pool_vain told.vain) gave;
        free = told.free;
        unchanged = (vain_gives told.vain).unchanged;
      };
      never = free_is_dead n told.free;
    }
