-- A new page outside the trees comes to a frame.
use Rattle.std.proofs.Common.{◌≡◌, ℕ, ◌<◌, ◌≤◌, List, [], length, sym, ap, subst, ◌∙◌, refl, arith, Option, None}
use Rattle.latch_space.specs.Passes.{view, known_values}
use Rattle.index_page.specs.Page.{PageRows}
use Rattle.tree_law.specs.Pages.{IsOrderly}
use Rattle.tree_law.proofs.PageRowLemmas.{own_of}
use Rattle.forest_law.specs.declared.objects.Frame.{Frame}
use Rattle.forest_law.specs.declared.objects.Stored.{Stored}
use Rattle.forest_law.specs.declared.objects.Pool.{Pool}
use Rattle.forest_law.specs.declared.objects.Where.TheVariants.{InFrame}
use Rattle.forest_law.specs.declared.objects.Object.{Object}
use Rattle.forest_law.specs.HashKept.{KeepsHash}
use Rattle.forest_law.specs.Law.{Follows}
use Rattle.forest_law.specs.PoolSteps.{PoolStep}
use Rattle.forest_law.specs.State.{page_within, where_at, image_at, fields_for}
use Rattle.forest_law.specs.Turns.{HasPage}
use Rattle.forest_law.proofs.PoolStepLemmas.{pages_come_and_go}
use Rattle.forest_world.specs.Held.{TreePass, shape_of_pass}
use Rattle.forest_world.specs.HashHands.{FrameRestsHash}
use Rattle.hash_maintain.proofs.PassLemmas.{knows_forest}
use Rattle.buffer_pool.specs.Ages.{IsAged}
use Rattle.buffer_pool.specs.Forests.{IsFittedTree}
use Rattle.buffer_pool.specs.Frames.{TakesOut}
use Rattle.buffer_pool.specs.Pools.{TakesPoolOut}
use Rattle.buffer_pool.specs.Tries.{HoldsPoolAndFrame}
use Rattle.buffer_pool.specs.Causes.{HasAged}
use Rattle.buffer_pool.specs.Turning.{PutsPage, loaded_with, KeepsOthers, MayTurn, TurnsBack, MayBring, BringsTo}
use Rattle.buffer_pool.proofs.HashRestLemmas.{known_tidy, empty_bare, load_rests}
use Rattle.buffer_pool.proofs.KnownLemmas.{image_room}
use Rattle.buffer_pool.proofs.PutLemmas.{put_place, put_image, puts_keeps, aged_rests, keeps_then, put_aged}
use Rattle.buffer_pool.proofs.TurnLemmas.{frame_is, pool_is, may_turn, turned}

-- the page, with no bounds
abbrev pub unbounded : PageRows → Stored
unbounded page = record { page = page; low = None; high = None }

-- a page without rows is in order where it has its index's number of fields
empty_order : (fields : ℕ → ℕ) (page : PageRows) → page.rows ≡ []
    → page.head.fields ≡ fields page.head.index → IsOrderly fields (page_within page None None)
empty_order fields page rows is = subst
    (λ rs. IsOrderly fields (page_within (record page { rows = rs }) None None)) (sym rows)
    (record { fields = is; keys = tt; low = tt; high = tt; bodies = tt; places = tt })

module _ (p p1 p2 : TreePass) (b : ℕ) (frame : Frame) (pool : Pool) (out : TakesOut p b frame p1)
    (outside : TakesPoolOut p1 pool p2) (page : PageRows) (may : MayBring p b page)
    (fitted : IsFittedTree (view p)) where
  abbrev n : ℕ
  n = page.head.number

  pool_same : pool ≡ may.pool
  pool_same = pool_is p p1 p2 b frame pool out outside may.taken may.pool may.frame may.both

  image_below : n < length may.pool.images.items
  image_below = image_room fitted.whole fitted.is_lawful (view p) fitted.fits may.taken may.pool
      may.both.pool n may.below

  -- the number has a place and an image
  pub brought_place : n < length pool.place.items
  brought_place = subst (λ (z : Pool). n < length z.place.items) (sym pool_same) may.below

  pub brought_image : n < length pool.images.items
  brought_image = subst (λ (z : Pool). n < length z.images.items) (sym pool_same) image_below

  module _ (y : Pool) (put : PutsPage pool n (InFrame b) None y) (z : Pool) (aged : IsAged y b z)
      (g : Frame) (made : g ≡ loaded_with frame (unbounded page)) where
    puts : PutsPage may.pool n (InFrame b) None y
    puts = subst (λ (w : Pool). PutsPage w n (InFrame b) None y) pool_same put

    made_is : g ≡ loaded_with may.frame (unbounded page)
    made_is = made ∙ ap (λ (f : Frame). loaded_with f (unbounded page))
        (frame_is p p1 p2 b frame pool out outside may.taken may.pool may.frame may.both)

    placed : where_at z.place.items n ≡ InFrame b
    placed = ap (λ xs. where_at xs n) aged.place
        ∙ put_place may.pool n (InFrame b) None y puts may.below

    bring_follows : (news : List (Option Object))
        → PoolStep (shape_of_pass p) (known_values p) news n
        (record { block = b; old = may.frame; new = g }) may.pool z
        → KeepsHash (shape_of_pass p) (known_values p) news
        → Follows (shape_of_pass p) (known_values p) news None
    bring_follows news step hash = pages_come_and_go.brings (shape_of_pass p) (known_values p) news
        (record {
          number = n;
          hand = record { block = b; old = may.frame; new = g };
          old = may.pool;
          new = z;
          step = step;
          page = page_within page None None;
          was = may.free;
          is = placed;
          unstored = ap (λ xs. image_at xs n) aged.images
              ∙ put_image may.pool n (InFrame b) None y puts image_below;
          empty = may.empty;
          has = subst (λ (f : Frame). HasPage f n (page_within page None None)) (sym made_is)
              (record { rows = page; paged = refl; number = refl; is = refl });
          outside = (own_of n page.head.prev may.own, may.rows);
          alone = may.alone;
          order = empty_order (fields_for (shape_of_pass p)) page may.rows may.fields;
          clock = subst (λ (f : Frame). may.frame.clock ≤ f.clock) (sym made_is) (omega arith);
        }) hash

    -- the frame isn't hashed, and rests so
    bare : may.frame.hashed ≡ None
    bare = empty_bare may.frame
        (known_tidy (view p) fitted b may.frame may.both.frame) may.empty

    bring_rests : FrameRestsHash (shape_of_pass p) b may.frame g
    bring_rests = load_rests (shape_of_pass p) b may.frame (unbounded page) g made_is bare
        (subst (λ m. 1 ≤ m) (sym may.fields)
        ((knows_forest p fitted).hash.keyed page.head.index may.index))

    -- the page may come
    pub may_bring : MayTurn p2 b g z
    may_bring = may_turn p p1 p2 b frame pool out outside may.taken may.pool may.frame may.both g z
        n
        (keeps_then may.pool n y z (puts_keeps may.pool n (InFrame b) None y puts)
        (aged_rests y b z aged)) bring_rests bring_follows

    -- and then the frame has it
    pub brings : (t : Object) (x : Pool) (f : Frame) → HoldsPoolAndFrame p b t x f
        → (q : TreePass) → TurnsBack p2 b g z q → BringsTo p b page t x q
    brings t x f both q back = record {
      pool = z;
      frame = g;
      turns = turned p p1 p2 b frame pool out outside t x f both g z q back;
      placed = placed;
      keeps = subst (λ (w : Pool). KeepsOthers w n z)
          (pool_is p p1 p2 b frame pool out outside t x f both)
          (keeps_then pool n y z (puts_keeps pool n (InFrame b) None y put)
          (aged_rests y b z aged));
      paged = ap (λ (w : Frame). w.page) made;
      low = ap (λ (w : Frame). w.low) made;
      high = ap (λ (w : Frame). w.high) made;
      hashed = ap (λ (w : Frame). w.hashed) made_is ∙ bare;
      aged = subst (λ (w : Pool). HasAged w b z)
          (pool_is p p1 p2 b frame pool out outside t x f both)
          (put_aged pool b y z put.ages put.tick aged);
    }
