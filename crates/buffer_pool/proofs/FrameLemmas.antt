-- What the calls on a block's frame do.
use Rattle.std.proofs.Common.{◌≡◌, ℕ, ◌<◌, set, sym, ap, subst, ◌∙◌, refl, arith, Option, Some, None}
use mathlib.Core.Option.{some, some-injective}
use lib.ListN.{get_elem?}
use Rattle.atomic_table.proofs.Lists.{set_here, set_else}
use Rattle.list_facts.proofs.Places.{inside, same_some, none_is_not}
use Rattle.latch_law.specs.declared.knows.Holding.{Holding}
use Rattle.latch_law.specs.declared.knows.Terms.{Terms}
use Rattle.latch_law.specs.Rule.{Holds}
use Rattle.latch_law.specs.Views.{holding, with_held, with_refused, releasing}
use Rattle.latch_law.specs.Whole.{IsFree}
use Rattle.latch_space.specs.declared.taking.Take.{Take}
use Rattle.latch_space.specs.declared.taking.Take.TheVariants.{Taken, Busy}
use Rattle.latch_space.specs.Has.{Has, SameBut, DidRelease}
use Rattle.latch_space.specs.Passes.{view, values, count, Shows}
use Rattle.latch_space.specs.Takes.{DidTakeAfter, TellsTake}
use Rattle.latch_space.proofs.Pointwise.{length-values}
use Rattle.index_law.specs.Shape.{Shape}
use Rattle.forest_law.specs.declared.objects.Frame.{Frame}
use Rattle.forest_law.specs.declared.objects.Object.{Object}
use Rattle.forest_law.specs.declared.objects.Object.TheVariants as object
use Rattle.forest_law.specs.Law.{IsLawful}
use Rattle.forest_law.specs.Numbers.{frame_id, frames_of}
use Rattle.index_law.specs.Rightness.{IsRight}
use Rattle.forest_law.specs.References.{IsReference}
use Rattle.forest_law.specs.Steps.{Rests}
use Rattle.forest_law.proofs.ObjectLemmas.{same_frame}
use Rattle.forest_world.specs.Held.{TreePass, shape_of_pass, HasFrame}
use Rattle.forest_world.proofs.HandLemmas.{rests_itself}
use Rattle.hash_maintain.proofs.PassLemmas.{after_none}
use Rattle.buffer_pool.specs.Forests.{TreeView}
use Rattle.buffer_pool.specs.Frames.{TakesFrame, TellsFrame, GivesFrame, TakesOut, PutsBack}
use Rattle.buffer_pool.specs.Lending.{ChangesFrame}
use Rattle.buffer_pool.proofs.KeepLemmas.{keeps_beside, rest_kept, rest_but}

-- one object stands at a number
pub one_shown : (p : TreePass) (k : ℕ) (x y : Object) → Shows p k x → Shows p k y → x ≡ y
one_shown p k x y a b = same_some x y (some-injective (Some x) (Some y) (sym a ∙ b))

-- and one is known there
pub one_held : (p : TreePass) (k : ℕ) (g h : Holding Object) → Holds (view p) k g
    → Holds (view p) k h → g ≡ h
one_held p k g h a b = same_some g h (some-injective (Some g) (Some h) (sym a ∙ b))

-- an object that was taken rests
pub taken_rests : (q : TreePass) (k : ℕ) (x : Object) → Has q k x x → (h : Holding Object)
    → Holds (view q) k h → (y : Object) × Shows q k y × Rests h.known y
taken_rests q k x has h held = (
  x,
  has.value,
  subst (λ (z : Holding Object). Rests z.known x) (one_held q k (holding has.held.0 x) h
      has.held.1 held) (rests_itself x),
)

module _ (p q : TreePass) (b : ℕ)
    (told : DidTakeAfter IsLawful IsRight IsReference p (frame_id (shape_of_pass p) b) q)
    (below : b < frames_of (shape_of_pass p)) where
  -- in the state in which it was free, the object is the block's frame
  pub frame_there : (f : Frame) × (told.value ≡ object.Frame f)
  frame_there =
      let w = told.was_free.whole in
      let shape : w.shape ≡ shape_of_pass p = told.was_free.fits.shape in
      let f =
      told.was_free.is_lawful.objects.kinds.frames b
      (subst (λ (s : Shape). b < frames_of s) (sym shape) below) in (
        f.0,
        some-injective told.value (object.Frame f.0)
            (sym told.was_free.value
            ∙ (ap (λ (s : Shape). get_elem? w.objects (frame_id s b)) (sym shape) ∙ f.1)),
      )

  taken_terms : (view q).terms ≡ (view p).terms
  taken_terms = ap (λ (v : TreeView). v.terms) told.view

  pub takes_frame : TakesFrame p b q
  takes_frame =
      let there = frame_there in
      let k = frame_id (shape_of_pass p) b in
      let w = told.was_free.whole in
      let shape : w.shape ≡ shape_of_pass p = told.was_free.fits.shape in
      let has : Has q k (object.Frame there.0) (object.Frame there.0) =
      subst (λ x. Has q k x x) there.1 told.took.has in
      record {
        frame = there.0;
        refused = told.refused;
        tries = told.tries;
        was = record {
          whole = w;
          is_lawful = told.was_free.is_lawful;
          fits = told.was_free.fits;
          free = subst (λ (s : Shape). IsFree w (frame_id s b)) (sym shape) told.was_free.free;
          at = ap (λ (s : Shape). get_elem? w.objects (frame_id s b)) shape
              ∙ (told.was_free.value ∙ ap some there.1);
        };
        view = told.view
            ∙ ap (λ x. with_held (with_refused (view p) told.refused) k (Some (holding x x)))
            there.1;
        has = subst
            (λ (s : Shape). Has q (frame_id s b) (object.Frame there.0) (object.Frame there.0))
            (ap (λ (t : Terms Shape). t.shape) (sym taken_terms)) has;
        hand = keeps_beside p q taken_terms b told.took.others;
        rest = rest_kept p q k taken_terms told.took.others
            (taken_rests q k (object.Frame there.0) has);
        count = told.took.count;
      }

-- what a try tells
pub tells_frame : (p q : TreePass) (b : ℕ) (r : Take) → b < frames_of (shape_of_pass p)
    → TellsTake IsLawful IsRight IsReference p (frame_id (shape_of_pass p) b) r q
    → TellsFrame p b r q
unfolding takes_frame after_none
tells_frame p q b Taken below told =
    (takes_frame p q b (after_none p q (frame_id (shape_of_pass p) b) told) below, refl)
tells_frame p q b (Busy n) below told =
    record { was_held = told.was_held; view = told.view; same = told.same }

-- what a frame that is given back leaves behind
pub gives_frame : (p q : TreePass) (b : ℕ) (f : Frame) → HasFrame p b f f
    → DidRelease p (frame_id (shape_of_pass p) b) q → GivesFrame p b q
gives_frame p q b f has told =
    let k = frame_id (shape_of_pass p) b in
    let h = holding has.held.0 (object.Frame f) in
    let view' : view q ≡ releasing (view p) k h =
    told.view ∙ ap (releasing (view p) k) (one_held p k told.holding h told.held has.held.1) in
    let terms : (view q).terms ≡ (view p).terms = ap (λ (v : TreeView). v.terms) view' in
    record {
      taken = has.held.0;
      frame = f;
      held = has.held.1;
      view = view';
      lacks = ap (λ (t : Terms Shape). get_elem? (view q).held (frame_id t.shape b)) terms
          ∙ told.gave.lacks;
      hand = keeps_beside p q terms b told.gave.others;
      rest = rest_kept p q k terms told.gave.others
          (λ g held. absurd (none_is_not g (sym told.gave.lacks ∙ held)));
      count = told.gave.count;
    }

-- an object in hand was taken out of its place, or put back there
module _ (p q : TreePass) (b : ℕ) (seat : (q.seat ≡ p.seat) × (count q ≡ count p))
    (v : Option Object) (put : values q ≡ set (values p) (frame_id (shape_of_pass p) b) v) where
  same_view : view q ≡ view p
  same_view = ap (λ s. s.me.0) seat.0

  same_terms : (view q).terms ≡ (view p).terms
  same_terms = ap (λ (w : TreeView). w.terms) same_view

  other_places : SameBut p q (frame_id (shape_of_pass p) b)
  other_places j differs = (
    ap (λ (w : TreeView). get_elem? w.held j) same_view,
    ap (λ vs. get_elem? vs j) put ∙ set_else (values p) (frame_id (shape_of_pass p) b) j v differs,
  )

  -- the place has what was put there
  put_here : (t : Object) (f : Frame)
      → Holds (view p) (frame_id (shape_of_pass p) b) (holding t (object.Frame f))
      → get_elem? (values q) (frame_id (shape_of_pass p) b) ≡ some v
  put_here t f held = ap (λ vs. get_elem? vs (frame_id (shape_of_pass p) b)) put
      ∙ set_here (values p) (frame_id (shape_of_pass p) b) v
      (let room = inside (view p).held (frame_id (shape_of_pass p) b)
      (Some (holding t (object.Frame f))) held in
      let long = length-values p in omega (arith, room, long))

  shape_back : shape_of_pass p ≡ shape_of_pass q
  shape_back = ap (λ (t : Terms Shape). t.shape) (sym same_terms)

  pub takes_out : (frame : Frame) → v ≡ None
      → Shows p (frame_id (shape_of_pass p) b) (object.Frame frame) → TakesOut p b frame q
  takes_out frame none shows = record {
    out = λ f g has. (
      record {
        held = subst (λ (s : Shape). (t : Object)
            × Holds (view q) (frame_id s b) (holding t (object.Frame f))) shape_back (
              has.held.0,
              ap (λ (w : TreeView). get_elem? w.held (frame_id (shape_of_pass p) b))
                  same_view ∙ has.held.1,
            );
        out = subst (λ (s : Shape). get_elem? (values q) (frame_id s b) ≡ some None) shape_back
            (put_here has.held.0 f has.held.1 ∙ ap some none);
      },
      same_frame frame g (one_shown p (frame_id (shape_of_pass p) b) (object.Frame frame)
          (object.Frame g) shows has.value),
    );
    hand = keeps_beside p q same_terms b other_places;
    rest = rest_but p q (frame_id (shape_of_pass p) b) same_terms other_places;
    view = same_view;
    count = seat.1;
  }

  pub puts_back : (frame : Frame) → v ≡ Some (object.Frame frame) → PutsBack p b frame q
  puts_back frame is = record {
    has = λ f out. subst
        (λ (s : Shape). Has q (frame_id s b) (object.Frame f) (object.Frame frame)) shape_back
        (record {
          held = (
            out.held.0,
            ap (λ (w : TreeView). get_elem? w.held (frame_id (shape_of_pass p) b)) same_view
                ∙ out.held.1,
          );
          value = put_here out.held.0 f out.held.1 ∙ ap some is;
        });
    hand = keeps_beside p q same_terms b other_places;
    rest = rest_but p q (frame_id (shape_of_pass p) b) same_terms other_places;
    view = same_view;
    count = seat.1;
  }

  pub changes_frame : (frame : Frame) → v ≡ Some (object.Frame frame) → ChangesFrame p b q frame
  changes_frame frame is = record {
    has = λ f g has. subst
        (λ (s : Shape). Has q (frame_id s b) (object.Frame f) (object.Frame frame)) shape_back
        (record {
          held = (
            has.held.0,
            ap (λ (w : TreeView). get_elem? w.held (frame_id (shape_of_pass p) b)) same_view
                ∙ has.held.1,
          );
          value = put_here has.held.0 f has.held.1 ∙ ap some is;
        });
    hand = keeps_beside p q same_terms b other_places;
    rest = rest_but p q (frame_id (shape_of_pass p) b) same_terms other_places;
    seat = seat.0;
    count = seat.1;
  }
