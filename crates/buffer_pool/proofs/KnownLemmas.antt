-- What a lawful state tells of the pool and a frame that are known.
use Rattle.std.proofs.Common.{◌≡◌, ℕ, ◌<◌, length, sym, ap, subst, ◌∙◌, arith, Some}
use mathlib.Core.Option.{some-injective}
use lib.ListN.{get_elem?}
use Rattle.list_facts.proofs.Places.{inside}
use Rattle.latch_law.specs.Views.{holding}
use Rattle.latch_space.specs.Passes.{view}
use Rattle.index_page.specs.Page.{PageRows}
use Rattle.index_law.specs.Shape.{Shape}
use Rattle.tree_law.specs.Pages.{IsOrderly}
use Rattle.forest_law.specs.declared.objects.Frame.{Frame}
use Rattle.forest_law.specs.declared.objects.Stored.{Stored}
use Rattle.forest_law.specs.declared.objects.Pool.{Pool}
use Rattle.forest_law.specs.declared.objects.Where.TheVariants.{InFrame, Image}
use Rattle.forest_law.specs.declared.objects.Object.{Object}
use Rattle.forest_law.specs.declared.objects.Object.TheVariants as object
use Rattle.forest_law.specs.FramePages.{TellsPage}
use Rattle.forest_law.specs.Images.{TellsImage}
use Rattle.forest_law.specs.Law.{IsLawful}
use Rattle.forest_law.specs.Numbers.{pool_id, frame_id, frames_of}
use Rattle.forest_law.specs.Objects.{IsFrameOf}
use Rattle.forest_law.specs.Placed.{IsPageIn}
use Rattle.forest_law.specs.State.{ForestState, page_within, places_of, images_of, ages_of, where_at, image_at, places, images, ages, fields_for}
use Rattle.forest_law.proofs.FramePageLemmas.{frame_tells}
use Rattle.forest_law.proofs.ImageLemmas.{images_tell_pages}
use Rattle.forest_law.proofs.ObjectLemmas.{same_frame}
use Rattle.forest_world.specs.Held.{TreePass, shape_of_pass}
use Rattle.call_law.specs.Hands.{KnowsFrame}
use Rattle.buffer_pool.specs.Forests.{TreeView, FitsTrees, IsFittedTree}
use Rattle.buffer_pool.specs.Pages.{HasNumber}
use Rattle.buffer_pool.specs.Tries.{KnowsPool, HoldsPoolAndFrame}
use Rattle.buffer_pool.proofs.PutLemmas.{used_below}
use Rattle.buffer_pool.proofs.SpaceLemmas.{known_below}

module _ (w : ForestState) (law : IsLawful w) (v : TreeView) (fits : FitsTrees w v) (t : Object)
    (x : Pool) (held : KnowsPool v t x) where
  -- the state has the places, the images and the ages of the pool that is known
  pub places_are : places w.objects ≡ x.place.items
  places_are = ap places_of (fits.known pool_id (holding t (object.Pool x)) held)

  pub images_are : images w.objects ≡ x.images.items
  images_are = ap images_of (fits.known pool_id (holding t (object.Pool x)) held)

  ages_are : ages w.objects ≡ x.ages
  ages_are = ap ages_of (fits.known pool_id (holding t (object.Pool x)) held)

  -- of which there are as many as the shape says
  pub places_counted : length x.place.items ≡ v.terms.shape.pages
  places_counted = ap length (sym places_are)
      ∙ (law.objects.counted.places ∙ ap (λ (s : Shape). s.pages) fits.shape)

  pub images_counted : length x.images.items ≡ v.terms.shape.pages
  images_counted = ap length (sym images_are)
      ∙ (law.objects.counted.images ∙ ap (λ (s : Shape). s.pages) fits.shape)

  pub ages_counted : length x.ages ≡ frames_of v.terms.shape
  ages_counted = ap length (sym ages_are)
      ∙ (law.objects.counted.ages ∙ ap frames_of fits.shape)

  -- a number that has a place has room for an image
  pub image_room : (n : ℕ) → n < length x.place.items → n < length x.images.items
  image_room n below = let a = places_counted in let b = images_counted in omega (arith, a, b)

  -- a page in a frame is there, and the frame is one of the shape's
  pub page_there : (n b : ℕ) → where_at x.place.items n ≡ InFrame b
      → IsPageIn w.shape w.objects n b
  page_there n b named = law.objects.placed.there n b (ap (λ xs. where_at xs n) places_are ∙ named)

  pub block_below : (n b : ℕ) → where_at x.place.items n ≡ InFrame b
      → b < frames_of v.terms.shape
  block_below n b named = let at = page_there n b named in
      let room = inside w.objects (frame_id w.shape b) (object.Frame at.frame) at.at in
      let all = law.objects.counted.objects in
      subst (λ (s : Shape). b < frames_of s) fits.shape (omega (arith, room, all))

  -- a page that is an image has one
  pub image_there : (n : ℕ) → where_at x.place.items n ≡ Image
      → (s : Stored) × (image_at x.images.items n ≡ Some s) × TellsImage w n s
  image_there n placed = let there = images_tell_pages.stored w law n
      (ap (λ xs. where_at xs n) places_are ∙ placed) in (
        there.0,
        ap (λ xs. image_at xs n) (sym images_are) ∙ there.1,
        images_tell_pages.tells w law n there.0 there.1,
      )

  module _ (b : ℕ) (f : Frame) (knows : KnowsFrame v b f) where
    -- the block has the frame that is known
    pub frame_at : IsFrameOf w.shape w.objects b f
    frame_at = ap (λ (s : Shape). get_elem? w.objects (frame_id s b)) fits.shape
        ∙ fits.known (frame_id v.terms.shape b) (holding knows.0 (object.Frame f)) knows.1

    -- which has each page that the pool names there
    pub named_number : (n : ℕ) → where_at x.place.items n ≡ InFrame b → HasNumber f n
    named_number n named = let at = page_there n b named in
        let is : at.frame ≡ f = same_frame at.frame f
        (some-injective (object.Frame at.frame) (object.Frame f) (sym at.at ∙ frame_at)) in
        record {
          page = at.page;
          paged = ap (λ (g : Frame). g.page) (sym is) ∙ at.paged;
          number = at.number;
        }

    module _ (rows : PageRows) (paged : f.page ≡ Some rows) where
      tells : TellsPage w f rows
      tells = frame_tells w law b f rows frame_at paged

      -- its page is named by the pool
      pub frame_named : where_at x.place.items rows.head.number ≡ InFrame b
      frame_named = ap (λ xs. where_at xs rows.head.number) (sym places_are)
          ∙ law.objects.placed.named b f rows frame_at paged

      pub number_in : rows.head.number < length x.place.items
      number_in = used_below x.place.items rows.head.number b frame_named

      -- and is in order
      pub frame_order : IsOrderly (fields_for v.terms.shape) (page_within rows f.low f.high)
      frame_order = subst
          (λ (s : Shape). IsOrderly (fields_for s) (page_within rows f.low f.high)) fits.shape
          tells.order

-- a frame that is held has an age
module _ (p : TreePass) (b : ℕ) (t : Object) (x : Pool) (f : Frame)
    (both : HoldsPoolAndFrame p b t x f) (fitted : IsFittedTree (view p))
    (objects : (view p).terms.objects ≡ frame_id (shape_of_pass p) (frames_of (shape_of_pass p)))
  where
    age_there : b < length x.ages
    age_there = let below = known_below p b both.frame.0 (object.Frame f) both.frame.1 objects in
        let counted = ages_counted fitted.whole fitted.is_lawful (view p) fitted.fits t x both.pool
        in
        omega (arith, below, counted)

    -- and so it has where only a page was put
    pub age_still : (pool y : Pool) → pool ≡ x → y.ages ≡ pool.ages
        → b < length y.ages
    age_still pool y same ages = let there = age_there in
        let e = ap length ages in let d = ap (λ (z : Pool). length z.ages) same in
        omega (arith, there, e, d)
