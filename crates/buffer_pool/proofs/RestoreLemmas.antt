-- A page comes from its image to a frame.
use Rattle.std.proofs.Common.{◌≡◌, ℕ, ◌<◌, ◌≤◌, List, length, sym, ap, subst, ◌∙◌, refl, arith, false, Option, Some, None}
use Rattle.list_facts.proofs.Places.{same_some}
use Rattle.index_law.specs.Shape.{Shape}
use Rattle.tree_law.specs.Pages.{Page, is_own, IsOrderly}
use Rattle.latch_space.specs.Passes.{view, known_values}
use Rattle.forest_law.specs.declared.objects.Frame.{Frame}
use Rattle.forest_law.specs.declared.objects.Stored.{Stored}
use Rattle.forest_law.specs.declared.objects.Pool.{Pool}
use Rattle.forest_law.specs.declared.objects.Where.TheVariants.{InFrame}
use Rattle.forest_law.specs.declared.objects.Object.{Object}
use Rattle.forest_law.specs.Images.{TellsImage}
use Rattle.forest_law.specs.HashKept.{KeepsHash}
use Rattle.forest_law.specs.Law.{Follows}
use Rattle.forest_law.specs.PoolSteps.{PoolStep}
use Rattle.forest_law.specs.State.{page_within, where_at, image_at, fields_for}
use Rattle.forest_law.specs.Turns.{HasPage}
use Rattle.forest_law.proofs.PoolStepLemmas.{pages_come_and_go}
use Rattle.forest_world.specs.Held.{TreePass, shape_of_pass}
use Rattle.forest_world.specs.HashHands.{FrameRestsHash}
use Rattle.hash_maintain.proofs.PassLemmas.{knows_forest}
use Rattle.buffer_pool.specs.Ages.{IsAged}
use Rattle.buffer_pool.specs.Forests.{IsFittedTree}
use Rattle.buffer_pool.specs.Frames.{TakesOut}
use Rattle.buffer_pool.specs.Pools.{TakesPoolOut}
use Rattle.buffer_pool.specs.Tries.{HoldsPoolAndFrame}
use Rattle.buffer_pool.specs.Causes.{HasAged}
use Rattle.buffer_pool.specs.Turning.{PutsPage, loaded_with, KeepsOthers, MayTurn, TurnsBack, MayRestore, RestoresTo}
use Rattle.buffer_pool.proofs.InsideLemmas.{image_inside, page_inside}
use Rattle.buffer_pool.proofs.HashRestLemmas.{known_tidy, empty_bare, load_rests}
use Rattle.buffer_pool.proofs.KnownLemmas.{image_there, images_are, places_counted, images_counted}
use Rattle.buffer_pool.proofs.PutLemmas.{put_place, put_image, puts_keeps, aged_rests, keeps_then, put_aged}
use Rattle.buffer_pool.proofs.TurnLemmas.{frame_is, pool_is, may_turn, turned}

module _ (p p1 p2 : TreePass) (b : ℕ) (frame : Frame) (pool : Pool) (out : TakesOut p b frame p1)
    (outside : TakesPoolOut p1 pool p2) (n : ℕ) (may : MayRestore p b n)
    (fitted : IsFittedTree (view p)) where
  frame_same : frame ≡ may.frame
  frame_same = frame_is p p1 p2 b frame pool out outside may.taken may.pool may.frame may.both

  pool_same : pool ≡ may.pool
  pool_same = pool_is p p1 p2 b frame pool out outside may.taken may.pool may.frame may.both

  there : (s : Stored) × (image_at may.pool.images.items n ≡ Some s) × TellsImage fitted.whole n s
  there = image_there fitted.whole fitted.is_lawful (view p) fitted.fits may.taken may.pool
      may.both.pool n may.stored

  number_below : n < (shape_of_pass p).pages
  number_below = subst (λ (s : Shape). n < s.pages) fitted.fits.shape there.2.below

  place_below : n < length may.pool.place.items
  place_below = let a = number_below in
      let e = places_counted fitted.whole fitted.is_lawful (view p) fitted.fits may.taken may.pool
      may.both.pool in omega (arith, a, e)

  image_below : n < length may.pool.images.items
  image_below = let a = number_below in
      let e = images_counted fitted.whole fitted.is_lawful (view p) fitted.fits may.taken may.pool
      may.both.pool in omega (arith, a, e)

  -- the number has a place and an image, and the block an age
  pub restored_place : n < length pool.place.items
  restored_place = subst (λ (z : Pool). n < length z.place.items) (sym pool_same) place_below

  pub restored_image : n < length pool.images.items
  restored_image = subst (λ (z : Pool). n < length z.images.items) (sym pool_same) image_below

  pub restored_there : (s : Stored) × (image_at pool.images.items n ≡ Some s)
  restored_there = (there.0, ap (λ (z : Pool). image_at z.images.items n) pool_same ∙ there.1)

  module _ (s : Stored) (is : image_at pool.images.items n ≡ Some s) (y : Pool)
      (put : PutsPage pool n (InFrame b) None y) (z : Pool) (aged : IsAged y b z) (g : Frame)
      (made : g ≡ loaded_with frame s) where
    puts : PutsPage may.pool n (InFrame b) None y
    puts = subst (λ (w : Pool). PutsPage w n (InFrame b) None y) pool_same put

    made_is : g ≡ loaded_with may.frame s
    made_is = made ∙ ap (λ (f : Frame). loaded_with f s) frame_same

    stored : image_at may.pool.images.items n ≡ Some s
    stored = ap (λ (w : Pool). image_at w.images.items n) (sym pool_same) ∙ is

    tells : TellsImage fitted.whole n s
    tells = subst (TellsImage fitted.whole n) (same_some there.0 s (sym there.1 ∙ stored)) there.2

    abbrev page : Page
    page = page_within s.page s.low s.high

    has_page : HasPage g n page
    has_page = subst (λ (f : Frame). HasPage f n page) (sym made_is)
        (record { rows = s.page; paged = refl; number = tells.number; is = refl })

    -- it is one of the trees
    tree : is_own n s.page.head.prev ≡ false
    tree = image_inside fitted.whole fitted.is_lawful n s
        (ap (λ xs. image_at xs n)
        (images_are fitted.whole fitted.is_lawful (view p) fitted.fits may.taken may.pool
        may.both.pool) ∙ stored)

    placed : where_at z.place.items n ≡ InFrame b
    placed = ap (λ xs. where_at xs n) aged.place
        ∙ put_place may.pool n (InFrame b) None y puts place_below

    restore_follows : (news : List (Option Object))
        → PoolStep (shape_of_pass p) (known_values p) news n
        (record { block = b; old = may.frame; new = g }) may.pool z
        → KeepsHash (shape_of_pass p) (known_values p) news
        → Follows (shape_of_pass p) (known_values p) news None
    restore_follows news step hash = pages_come_and_go.restores (shape_of_pass p) (known_values p)
        news
        (record {
          number = n;
          hand = record { block = b; old = may.frame; new = g };
          old = may.pool;
          new = z;
          step = step;
          page = page;
          image = s;
          was = may.stored;
          is = placed;
          stored = stored;
          unstored = ap (λ xs. image_at xs n) aged.images
              ∙ put_image may.pool n (InFrame b) None y puts image_below;
          had = record { number = tells.number; is = refl };
          tree = tree;
          empty = may.empty;
          has = has_page;
          order = subst (λ (w : Shape). IsOrderly (fields_for w) page) fitted.fits.shape
              tells.order;
          clock = subst (λ (f : Frame). may.frame.clock ≤ f.clock) (sym made_is) (omega arith);
        }) hash

    -- the page's index is one of the space's, so its keys have a field
    index_below : s.page.head.index < (shape_of_pass p).indexes
    index_below = subst (λ (w : Shape). s.page.head.index < w.indexes) fitted.fits.shape
        (tells.sound tree).index

    fields_are : s.page.head.fields ≡ fields_for (shape_of_pass p) s.page.head.index
    fields_are = tells.order.fields
        ∙ ap (λ (w : Shape). fields_for w s.page.head.index) fitted.fits.shape

    restore_rests : FrameRestsHash (shape_of_pass p) b may.frame g
    restore_rests = load_rests (shape_of_pass p) b may.frame s g made_is
        (empty_bare may.frame
        (known_tidy (view p) fitted b may.frame may.both.frame) may.empty)
        (subst (λ m. 1 ≤ m) (sym fields_are)
        ((knows_forest p fitted).hash.keyed s.page.head.index index_below))

    -- the page may come
    pub may_restore : MayTurn p2 b g z
    may_restore = may_turn p p1 p2 b frame pool out outside may.taken may.pool may.frame may.both g
        z n
        (keeps_then may.pool n y z (puts_keeps may.pool n (InFrame b) None y puts)
        (aged_rests y b z aged)) restore_rests restore_follows

    -- and then the frame has it
    pub restores : (t : Object) (x : Pool) (f : Frame) → HoldsPoolAndFrame p b t x f
        → (q : TreePass) → TurnsBack p2 b g z q → RestoresTo p b n t x q
    restores t x f both q back = record {
      pool = z;
      frame = g;
      turns = turned p p1 p2 b frame pool out outside t x f both g z q back;
      has = record { page = has_page.rows; paged = has_page.paged; number = has_page.number };
      inside = page_inside g s.page (ap (λ (w : Frame). w.page) made)
          (subst (λ m. is_own m s.page.head.prev ≡ false) (sym tells.number) tree);
      placed = placed;
      keeps = subst (λ (w : Pool). KeepsOthers w n z)
          (pool_is p p1 p2 b frame pool out outside t x f both)
          (keeps_then pool n y z (puts_keeps pool n (InFrame b) None y put)
          (aged_rests y b z aged));
      aged = subst (λ (w : Pool). HasAged w b z)
          (pool_is p p1 p2 b frame pool out outside t x f both)
          (put_aged pool b y z put.ages put.tick aged);
    }
