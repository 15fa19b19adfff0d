-- The page of a frame goes to its image.
use Rattle.std.proofs.Common.{◌≡◌, ℕ, ◌<◌, List, length, sym, ap, subst, ◌∙◌, refl, Option, Some, None}
use Rattle.list_facts.proofs.Places.{same_some}
use Rattle.index_page.specs.Page.{PageRows}
use Rattle.tree_law.specs.Pages.{Page, IsOrderly}
use Rattle.forest_law.specs.declared.objects.Frame.{Frame}
use Rattle.forest_law.specs.declared.objects.Stored.{Stored}
use Rattle.forest_law.specs.declared.objects.Pool.{Pool}
use Rattle.forest_law.specs.declared.objects.Where.TheVariants.{InFrame, Image}
use Rattle.forest_law.specs.declared.objects.Object.{Object}
use Rattle.forest_law.specs.HashKept.{KeepsHash}
use Rattle.forest_law.specs.Law.{Follows}
use Rattle.forest_law.specs.Outside.{HasNoOutside}
use Rattle.forest_law.specs.PoolSteps.{PoolStep}
use Rattle.forest_law.specs.State.{page_within, page_if, where_at, fields_for}
use Rattle.forest_law.specs.Turns.{HasPage}
use Rattle.forest_law.proofs.PoolStepLemmas.{pages_come_and_go}
use Rattle.forest_world.specs.Held.{TreePass, shape_of_pass}
use Rattle.latch_space.specs.Passes.{view, known_values}
use Rattle.buffer_pool.specs.Forests.{IsFittedTree}
use Rattle.buffer_pool.specs.Frames.{TakesOut}
use Rattle.buffer_pool.specs.Pools.{TakesPoolOut}
use Rattle.buffer_pool.specs.Tries.{HoldsPoolAndFrame, TurnsBoth}
use Rattle.buffer_pool.specs.Turning.{PutsPage, UnloadsFrame, HasPlaces, MayTurn, TurnsBack, ClearsBlock}
use Rattle.buffer_pool.proofs.HashRestLemmas.{unload_rests}
use Rattle.buffer_pool.proofs.KnownLemmas.{frame_named, named_number, number_in, frame_order, image_room}
use Rattle.buffer_pool.proofs.PutLemmas.{put_place, put_image, puts_keeps}
use Rattle.buffer_pool.proofs.TurnLemmas.{frame_is, pool_is, may_turn, turned}

module _ (p p1 p2 : TreePass) (b : ℕ) (frame : Frame) (pool : Pool) (out : TakesOut p b frame p1)
    (outside : TakesPoolOut p1 pool p2) (t : Object) (x : Pool) (f : Frame)
    (both : HoldsPoolAndFrame p b t x f) (fitted : IsFittedTree (view p)) where
  frame_same : frame ≡ f
  frame_same = frame_is p p1 p2 b frame pool out outside t x f both

  pool_same : pool ≡ x
  pool_same = pool_is p p1 p2 b frame pool out outside t x f both

  -- the number of the frame's page has a place and an image
  pub place_of_page : (r : PageRows) → f.page ≡ Some r → r.head.number < length x.place.items
  place_of_page r paged = number_in fitted.whole fitted.is_lawful (view p) fitted.fits t x both.pool
      b f both.frame r paged

  pub image_of_page : (r : PageRows) → f.page ≡ Some r → r.head.number < length x.images.items
  image_of_page r paged = image_room fitted.whole fitted.is_lawful (view p) fitted.fits t x
      both.pool r.head.number (place_of_page r paged)

  pub has_places : (r : PageRows) → f.page ≡ Some r → HasPlaces frame pool
  has_places r paged = record {
    page = r;
    paged = ap (λ (z : Frame). z.page) frame_same ∙ paged;
    place = subst (λ (z : Pool). r.head.number < length z.place.items) (sym pool_same)
        (place_of_page r paged);
    image = subst (λ (z : Pool). r.head.number < length z.images.items) (sym pool_same)
        (image_of_page r paged);
  }

module _ (p p1 p2 : TreePass) (b : ℕ) (frame : Frame) (pool : Pool) (out : TakesOut p b frame p1)
    (outside : TakesPoolOut p1 pool p2) (t : Object) (x : Pool) (f : Frame)
    (both : HoldsPoolAndFrame p b t x f) (fitted : IsFittedTree (view p)) (g : Frame) (s : Stored)
    (unloaded : UnloadsFrame frame s g) where
  abbrev n : ℕ
  n = s.page.head.number

  unloads : UnloadsFrame f s g
  unloads = subst (λ (z : Frame). UnloadsFrame z s g)
      (frame_same p p1 p2 b frame pool out outside t x f both fitted) unloaded

  place_below : n < length x.place.items
  place_below = place_of_page p p1 p2 b frame pool out outside t x f both fitted s.page unloads.page

  image_below : n < length x.images.items
  image_below = image_of_page p p1 p2 b frame pool out outside t x f both fitted s.page unloads.page

  -- the pool names the frame
  pub evicted_named : where_at x.place.items n ≡ InFrame b
  evicted_named =
      frame_named fitted.whole fitted.is_lawful (view p) fitted.fits t x both.pool b f both.frame
      s.page unloads.page

  -- for no other page
  evicted_only : (m : ℕ) → where_at x.place.items m ≡ InFrame b → m ≡ n
  evicted_only m named =
      let has = named_number fitted.whole fitted.is_lawful (view p) fitted.fits t x both.pool b f
      both.frame m named in
      sym has.number
      ∙ (ap (λ (r : PageRows). r.head.number)
      (same_some has.page s.page (sym has.paged ∙ unloads.page)))

  -- the page with its bounds
  abbrev page : Page
  page = page_within s.page s.low s.high

  pub unloaded_had : HasPage f n page
  unloaded_had = record {
    rows = s.page;
    paged = unloads.page;
    number = refl;
    is = λ k. page_if (unloads.page k) (unloads.low k) (unloads.high k);
  }

  unloaded_order : IsOrderly (fields_for (shape_of_pass p)) page
  unloaded_order = subst (IsOrderly (fields_for (shape_of_pass p)))
      (λ k. page_within s.page (unloads.low k) (unloads.high k))
      (frame_order fitted.whole fitted.is_lawful (view p) fitted.fits t x both.pool b f both.frame
      s.page unloads.page)

  module _ (y : Pool) (put : PutsPage pool n Image (Some s) y) where
    puts : PutsPage x n Image (Some s) y
    puts = subst (λ (z : Pool). PutsPage z n Image (Some s) y)
        (pool_same p p1 p2 b frame pool out outside t x f both fitted) put

    evict_follows : HasNoOutside f → (news : List (Option Object))
        → PoolStep (shape_of_pass p) (known_values p) news n
        (record { block = b; old = f; new = g }) x y
        → KeepsHash (shape_of_pass p) (known_values p) news
        → Follows (shape_of_pass p) (known_values p) news None
    evict_follows inside news step hash =
        pages_come_and_go.evicts (shape_of_pass p) (known_values p) news
        (record {
          number = n;
          hand = record { block = b; old = f; new = g };
          old = x;
          new = y;
          step = step;
          page = page;
          image = s;
          was = evicted_named;
          is = put_place x n Image (Some s) y puts place_below;
          stored = put_image x n Image (Some s) y puts image_below;
          had = unloaded_had;
          tree = inside s.page unloads.page;
          has = record { number = refl; is = refl };
          empty = ap (λ (z : Frame). z.page) unloads.empty;
          order = unloaded_order;
          clock = unloads.clock;
        }) hash

    -- the page may go
    pub may_evict : HasNoOutside f → f.hashed ≡ None → MayTurn p2 b g y
    may_evict inside bare = may_turn p p1 p2 b frame pool out outside t x f both g y n
        (puts_keeps x n Image (Some s) y puts)
        (unload_rests (shape_of_pass p) b f s g unloads bare) (evict_follows inside)

    -- and then the frame has none, and what was in it is an image
    pub evict_turns : (q : TreePass) → TurnsBack p2 b g y q → TurnsBoth p b t q y g
    evict_turns q back = turned p p1 p2 b frame pool out outside t x f both g y q back

    pub evict_empty : g.page ≡ None
    evict_empty = ap (λ (z : Frame). z.page) unloads.empty

    pub evict_clears : ClearsBlock x b y
    evict_clears = record {
      gone = λ m named. ap (where_at y.place.items) (evicted_only m named)
          ∙ put_place x n Image (Some s) y puts place_below;
      keeps = λ m other.
          ((puts_keeps x n Image (Some s) y puts).elsewhere m
          (λ e. other (ap (where_at x.place.items) e ∙ evicted_named))).place;
      ages = puts.ages;
      tick = puts.tick;
    }
