-- A block isn't hashed any more, its page outside the trees is gone, the pool is given back, and
-- then its frame.
use Rattle.std.proofs.Common.{◌≡◌, ◌∙◌, ℕ, [], ◌∷◌, ◌++◌, inl, sym, ap, subst, refl, arith, Some}
use Rattle.list_facts.proofs.Each.{each_append}
use Rattle.list_facts.proofs.Places.{same_some}
use Rattle.index_page.specs.Page.{PageRows}
use Rattle.tree_law.proofs.PageRowLemmas.{own_of}
use Rattle.forest_law.specs.declared.objects.Frame.{Frame}
use Rattle.latch_law.specs.declared.knows.Holding.{Holding}
use Rattle.latch_law.specs.declared.knows.Terms.{Terms}
use Rattle.latch_law.specs.Views.{holding}
use Rattle.latch_law.specs.Whole.{reference}
use Rattle.latch_space.specs.Has.{IsKnown}
use Rattle.latch_space.specs.Passes.{view}
use Rattle.index_law.specs.Shape.{Shape}
use Rattle.forest_law.specs.declared.objects.Object.{Object}
use Rattle.forest_law.specs.declared.objects.Object.TheVariants as object
use Rattle.forest_law.specs.Numbers.{pool_id, frame_id}
use Rattle.forest_law.proofs.ObjectLemmas.{same_frame}
use Rattle.forest_world.specs.Held.{TreePass, shape_of_pass}
use Rattle.tree_law.specs.TreeShape.{In}
use Rattle.hash_maintain.specs.Leaves.{unhashed}
use Rattle.call_law.specs.Hands.{KnowsFrame, HoldsNoTable}
use Rattle.call_law.specs.Trace.{Added}
use Rattle.call_law.proofs.TraceLemmas.{both_added}
use Rattle.buffer_pool.specs.Calls.{Does}
use Rattle.buffer_pool.specs.Causes.{ChangesPoolSo}
use Rattle.buffer_pool.specs.Frames.{GivesFrame}
use Rattle.buffer_pool.specs.Hands.{MayGiveBack}
use Rattle.buffer_pool.specs.NewPages.{HoldsOutsidePage, FreesPage}
use Rattle.buffer_pool.specs.Pools.{TakesPool, GivesPool, HoldsKnownPool}
use Rattle.buffer_pool.specs.Parts.{IsPageOutside, UnhashesBlock}
use Rattle.buffer_pool.specs.Tries.{tries_alone, TriesGivingParts, HoldsPoolAndFrame}
use Rattle.buffer_pool.specs.Turning.{MayFree, FreesFrom}
use Rattle.buffer_pool.proofs.AddedLemmas.{only_given, frame_still}
use Rattle.buffer_pool.proofs.CallLemmas.{does_both, frame_has, pool_has, gave_frame}
use Rattle.buffer_pool.proofs.FrameLemmas.{one_held}
use Rattle.buffer_pool.proofs.GivingLemmas.{leaves_once, parts_leave, giving_none, unhashed_knows, unhashed_table}
use Rattle.buffer_pool.proofs.GiveLemmas.{first, first_shape, pool_taken, all_added, all_does, pool_among, pool_once, frame_then}
use Rattle.buffer_pool.proofs.InsideLemmas.{empty_inside}
use Rattle.buffer_pool.proofs.TurnLemmas.{frame_not_pool}
use Rattle.buffer_pool.proofs.VictimLemmas.{in_left, in_right}

-- a page outside the trees that is held is all that the block's frame has
pub outside_page_is : (p : TreePass) (b : ℕ) → HoldsOutsidePage (view p) b → (f : Frame)
    → KnowsFrame (view p) b f → IsPageOutside f
outside_page_is p b was f knows = subst IsPageOutside
    (same_frame was.frame f (ap (λ (h : Holding Object). h.known)
    (one_held p (frame_id (shape_of_pass p) b) (holding was.knows.0 (object.Frame was.frame))
    (holding knows.0 (object.Frame f)) was.knows.1 knows.1)))
    (λ page paged. let same = same_some was.page page (sym was.paged ∙ paged) in
    own_of page.head.number page.head.prev (subst (λ (z : PageRows). z.head.prev ≡ Some z.head.number)
    same was.own))

module _ (p0 p p1 : TreePass) (b : ℕ) (did : UnhashesBlock p0 b p)
    (lacked : HoldsNoTable (view p0)) (took : TakesPool p p1)
    (was : HoldsOutsidePage (view p0) b) where
  abbrev known : IsKnown p
  known = did.silently.does.known

  abbrev lacks : HoldsNoTable (view p)
  lacks = unhashed_table p0 p b did lacked

  -- its block isn't hashed any more
  abbrev held : HoldsOutsidePage (view p) b
  held = record {
    frame = unhashed was.frame;
    knows = unhashed_knows p0 p b did was.frame was.knows;
    page = was.page;
    paged = was.paged;
    own = was.own;
    empty = was.empty;
  }

  -- the pool and the frame are held
  pub freed_both : HoldsPoolAndFrame p1 b (object.Pool took.pool) took.pool held.frame
  freed_both = record {
    known = (first p p1 known lacks took).known;
    pool = pool_taken p p1 known lacks took;
    frame = frame_still (view p) (view p1) (pool_id ∷ [])
        (first p p1 known lacks took).adds.numbers (first p p1 known lacks took).rest b
        (frame_not_pool (shape_of_pass p) b, tt) held.frame held.knows;
  }

  -- the page may go
  pub may_free : MayFree p1 b held.page
  may_free = record {
    taken = object.Pool took.pool;
    pool = took.pool;
    frame = held.frame;
    both = freed_both;
    paged = held.paged;
    own = held.own;
    rows = held.empty;
    hashed = refl;
  }

  module _ (q1 : TreePass)
      (freed : FreesFrom p1 b held.page.head.number (object.Pool took.pool) took.pool held.frame q1)
    where
      -- the pool is held as it is known
      pub pool_freed : HoldsKnownPool q1
      pool_freed = (
        freed.pool,
        pool_has q1 freed.turns.both.known (object.Pool took.pool) freed.pool
            freed.turns.both.pool,
      )

      abbrev tries : TriesGivingParts p1 q1 (pool_id ∷ frame_id (shape_of_pass p) b ∷ [])
      tries = giving_none p1 q1 (pool_id ∷ frame_id (shape_of_pass p) b ∷ []) (record {
        refused = freed.turns.tries.refused;
        does = subst
            (λ (s : Shape). Does p1 q1 (pool_id ∷ frame_id s b ∷ [])
            (tries_alone freed.turns.tries.refused)) (first_shape p p1 known lacks took)
            freed.turns.tries.does;
      })

      module _ (q2 : TreePass) (gave : GivesPool q1 q2) where
        abbrev k : ℕ
        k = frame_id (shape_of_pass p) b

        abbrev before : Added
        before = all_added p p1 known lacks took q1 q2 (k ∷ []) tries freed.pool
            freed.turns.both.pool gave

        second : Does p q2 (k ∷ []) before
        second = all_does p p1 known lacks took q1 q2 (k ∷ []) tries freed.pool
            freed.turns.both.pool gave

        knows_freed : KnowsFrame (view q2) b freed.frame
        knows_freed = frame_then p p1 known lacks took q1 q2 (k ∷ []) tries freed.pool
            freed.turns.both.pool gave b freed.frame freed.turns.both.frame

        -- and so is the frame
        pub frame_freed : MayGiveBack q2 b
        frame_freed = (
          freed.frame,
          frame_has q2 second.known b freed.frame knows_freed,
          empty_inside freed.frame freed.empty,
        )

        module _ (q : TreePass) (gone : GivesFrame q2 b q) where
          same_shape : shape_of_pass q2 ≡ shape_of_pass p
          same_shape = ap (λ (t : Terms Shape). t.shape) second.adds.numbers.terms

          abbrev given : Added
          given = only_given k gone.taken (object.Frame gone.frame)

          third : Does q2 q (k ∷ []) given
          third = subst
              (λ (s : Shape). Does q2 q (frame_id s b ∷ [])
              (only_given (frame_id s b) gone.taken (object.Frame gone.frame))) same_shape
              (gave_frame q2 q second.known b gone)

          -- it went out as it is known
          gone_is : gone.frame ≡ freed.frame
          gone_is = same_frame gone.frame freed.frame (ap (λ (h : Holding Object). h.known)
              (one_held q2 (frame_id (shape_of_pass q2) b)
              (holding gone.taken (object.Frame gone.frame))
              (holding knows_freed.0 (object.Frame freed.frame)) gone.held knows_freed.1))

          -- the number is free, and the frame was given back without the page
          own_shape : shape_of_pass p ≡ shape_of_pass p0
          own_shape = ap (λ (t : Terms Shape). t.shape) did.silently.does.adds.numbers.terms

          abbrev first_added : Added
          first_added = did.silently.added

          abbrev all : Added
          all = both_added before given

          pub frees_page : FreesPage p0 b q
          frees_page = record {
            was = was;
            silently = record {
              added = both_added first_added all;
              does = does_both p0 p q (frame_id (shape_of_pass p0) b ∷ []) first_added all
                  did.silently.does
                  (subst (λ (s : Shape). Does p q (frame_id s b ∷ []) all) own_shape
                  (does_both p q2 q (k ∷ []) before given second third));
              silent = λ i. did.silently.silent i ++ [];
            };
            pool = took.pool;
            held = record {
              now = freed.pool;
              among = in_right (reference pool_id (object.Pool took.pool) (object.Pool freed.pool))
                  first_added.references all.references
                  (in_left (reference pool_id (object.Pool took.pool) (object.Pool freed.pool))
                  before.references given.references
                  (pool_among p p1 known lacks took q1 q2 (k ∷ []) tries freed.pool
                  freed.turns.both.pool gave));
            };
            once = each_append (ChangesPoolSo took.pool freed.pool) first_added.references
                all.references
                (leaves_once took.pool freed.pool first_added.references
                (parts_leave first_added.references did.parts))
                (each_append (ChangesPoolSo took.pool freed.pool) before.references
                given.references
                (pool_once p p1 known lacks took q1 q2 (k ∷ []) tries freed.pool
                freed.turns.both.pool gave)
                ((λ is. absurd (frame_not_pool (shape_of_pass p) b is)), tt));
            placed = freed.placed;
            ages = freed.ages;
            frame = freed.frame;
            gave = record {
              was = was.frame;
              knew = was.knows;
              taken = gone.taken;
              among = subst
                  (λ (s : Shape). In (reference (frame_id s b) gone.taken
                  (object.Frame freed.frame)) (first_added.references ++ all.references))
                  own_shape
                  (in_right (reference k gone.taken (object.Frame freed.frame))
                  first_added.references all.references
                  (in_right (reference k gone.taken (object.Frame freed.frame))
                  before.references given.references
                  (inl (λ i. reference k gone.taken (object.Frame (sym gone_is i))))));
              clock = freed.clock;
            };
            empty = freed.empty;
            lacks = gone.lacks;
            count = (let v = did.count in let x = took.count in let y = freed.turns.count in let z
                = gave.count in
                let w = gone.count in omega (arith, v, x, y, z, w));
          }
