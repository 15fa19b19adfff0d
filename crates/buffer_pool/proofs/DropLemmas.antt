-- A page outside the trees goes from its frame for good.
use Rattle.std.proofs.Common.{◌≡◌, ℕ, List, set, sym, ap, subst, ◌∙◌, Option, Some, None}
use Rattle.list_facts.proofs.Places.{same_some}
use Rattle.latch_space.specs.Passes.{view, known_values}
use Rattle.clock_law.specs.ModifyClock.{ClockRises}
use Rattle.index_page.specs.Page.{PageRows}
use Rattle.tree_law.proofs.PageRowLemmas.{own_of}
use Rattle.forest_law.specs.declared.objects.Frame.{Frame}
use Rattle.forest_law.specs.declared.objects.Stored.{Stored}
use Rattle.forest_law.specs.declared.objects.Pool.{Pool}
use Rattle.forest_law.specs.declared.objects.Where.TheVariants.{Free}
use Rattle.forest_law.specs.declared.objects.Object.{Object}
use Rattle.forest_law.specs.HashKept.{KeepsHash}
use Rattle.forest_law.specs.Law.{Follows}
use Rattle.forest_law.specs.PoolSteps.{PoolStep}
use Rattle.forest_law.specs.State.{page_within, where_at, image_at}
use Rattle.forest_law.proofs.PoolStepLemmas.{pages_come_and_go}
use Rattle.forest_world.specs.Held.{TreePass, shape_of_pass}
use Rattle.buffer_pool.specs.Forests.{IsFittedTree}
use Rattle.buffer_pool.specs.Frames.{TakesOut}
use Rattle.buffer_pool.specs.Pools.{TakesPoolOut}
use Rattle.buffer_pool.specs.Tries.{HoldsPoolAndFrame}
use Rattle.buffer_pool.specs.Turning.{PutsPage, UnloadsFrame, ClearsFrame, MayTurn, TurnsBack, MayFree, FreesFrom}
use Rattle.buffer_pool.proofs.EvictLemmas.{unloaded_had, evicted_named, place_of_page, image_of_page}
use Rattle.buffer_pool.proofs.HashRestLemmas.{unload_rests}
use Rattle.buffer_pool.proofs.PutLemmas.{put_place, put_image, puts_keeps, ageless_rests, keeps_then}
use Rattle.buffer_pool.proofs.TurnLemmas.{frame_is, pool_is, may_turn, turned}

module _ (p p1 p2 : TreePass) (b : ℕ) (frame : Frame) (pool : Pool) (out : TakesOut p b frame p1)
    (outside : TakesPoolOut p1 pool p2) (g : Frame) (z : Pool) (clears : ClearsFrame frame pool b g z)
    (fitted : IsFittedTree (view p)) where
  abbrev s : Stored
  s = clears.stored

  abbrev n : ℕ
  n = s.page.head.number

  abbrev y : Pool
  y = clears.between

  module _ (page : PageRows) (may : MayFree p b page) where
    pool_same : pool ≡ may.pool
    pool_same = pool_is p p1 p2 b frame pool out outside may.taken may.pool may.frame may.both

    unloads : UnloadsFrame may.frame s g
    unloads = subst (λ (f : Frame). UnloadsFrame f s g)
        (frame_is p p1 p2 b frame pool out outside may.taken may.pool may.frame may.both)
        clears.unloads

    page_same : page ≡ s.page
    page_same = same_some page s.page (sym may.paged ∙ unloads.page)

    puts : PutsPage may.pool n Free None y
    puts = subst (λ (w : Pool). PutsPage w n Free None y) pool_same clears.puts

    drop_follows : (news : List (Option Object))
        → PoolStep (shape_of_pass p) (known_values p) news n
        (record { block = b; old = may.frame; new = g }) may.pool z
        → KeepsHash (shape_of_pass p) (known_values p) news
        → Follows (shape_of_pass p) (known_values p) news None
    drop_follows news step hash = pages_come_and_go.takes (shape_of_pass p) (known_values p) news
        (record {
          number = n;
          hand = record { block = b; old = may.frame; new = g };
          old = may.pool;
          new = z;
          step = step;
          page = page_within s.page s.low s.high;
          was = evicted_named p p1 p2 b frame pool out outside may.taken may.pool may.frame
              may.both fitted g s clears.unloads;
          is = ap (λ xs. where_at xs n) clears.ageless.place
              ∙ put_place may.pool n Free None y puts
              (place_of_page p p1 p2 b frame pool out outside may.taken may.pool may.frame may.both
              fitted s.page unloads.page);
          unstored = ap (λ xs. image_at xs n) clears.ageless.images
              ∙ put_image may.pool n Free None y puts
              (image_of_page p p1 p2 b frame pool out outside may.taken may.pool may.frame may.both
              fitted s.page unloads.page);
          had = unloaded_had p p1 p2 b frame pool out outside may.taken may.pool may.frame
              may.both fitted g s clears.unloads;
          empty = ap (λ (f : Frame). f.page) unloads.empty;
          outside = (
            own_of n s.page.head.prev
                (ap (λ (q : PageRows). q.head.prev) (sym page_same)
                ∙ (may.own
                ∙ ap Some (ap (λ (q : PageRows). q.head.number) page_same))),
            ap (λ (q : PageRows). q.rows) (sym page_same) ∙ may.rows,
          );
          clock = unloads.clock;
        }) hash

    -- the page may go
    pub may_drop : MayTurn p2 b g z
    may_drop = may_turn p p1 p2 b frame pool out outside may.taken may.pool may.frame may.both g z n
        (keeps_then may.pool n y z (puts_keeps may.pool n Free None y puts)
        (ageless_rests y b z clears.ageless))
        (unload_rests (shape_of_pass p) b may.frame s g unloads may.hashed) drop_follows

  -- and then its number is free
  pub drops : (page : PageRows) (t : Object) (x : Pool) (f : Frame) → HoldsPoolAndFrame p b t x f
      → f.page ≡ Some page → (q : TreePass) → TurnsBack p2 b g z q
      → FreesFrom p b page.head.number t x f q
  drops page t x f both paged q back =
      let frame_same = frame_is p p1 p2 b frame pool out outside t x f both in
      let pool_same = pool_is p p1 p2 b frame pool out outside t x f both in
      let page_same : s.page ≡ page =
      same_some s.page page (sym clears.unloads.page ∙ (ap (λ (w : Frame). w.page) frame_same ∙ paged)) in
      record {
        pool = z;
        frame = g;
        turns = turned p p1 p2 b frame pool out outside t x f both g z q back;
        placed = clears.ageless.place
            ∙ (clears.puts.place
            ∙ (λ k. set (pool_same k).place.items
            (page_same k).head.number Free));
        ages = clears.ageless.ages
            ∙ ap (λ xs. set xs b 0)
            (clears.puts.ages ∙ ap (λ (w : Pool). w.ages) pool_same);
        empty = ap (λ (w : Frame). w.page) clears.unloads.empty;
        clock = subst (λ (w : Frame). ClockRises w.clock g.clock) frame_same clears.unloads.clock;
      }
