-- What the calls on a partition in hand do.
use Rattle.std.proofs.Common.{◌≡◌, ℕ, ◌<◌, set, sym, ap, subst, ◌∙◌, refl, arith, Option, Some, None}
use mathlib.Core.Option.{some, some-injective}
use lib.ListN.{get_elem?}
use Rattle.atomic_table.proofs.Lists.{set_here, set_else}
use Rattle.list_facts.proofs.Places.{inside, same_some}
use Rattle.latch_law.specs.declared.knows.Knows.{Knows}
use Rattle.latch_law.specs.declared.knows.Terms.{Terms}
use Rattle.latch_law.specs.Fitting.{MayRelease}
use Rattle.latch_law.specs.Rule.{Holds}
use Rattle.latch_law.specs.Views.{holding, with_held, with_refused, releasing}
use Rattle.latch_space.specs.Has.{Has, SameBut, DidRelease}
use Rattle.latch_space.specs.Passes.{view, values, count, Shows}
use Rattle.latch_space.specs.declared.taking.Take.{Take}
use Rattle.latch_space.specs.declared.taking.Take.TheVariants.{Taken, Busy}
use Rattle.latch_space.specs.Takes.{DidTakeAfter, TellsTake}
use Rattle.latch_space.proofs.Pointwise.{length-values}
use Rattle.hash_partition.specs.Part.{Part}
use Rattle.index_law.specs.Answers.{MadeChange, Saying}
use Rattle.index_law.specs.Rightness.{IsRight}
use Rattle.index_law.specs.Shape.{Shape}
use Rattle.forest_law.specs.declared.objects.Frame.{Frame}
use Rattle.forest_law.specs.declared.objects.Object.{Object}
use Rattle.forest_law.specs.declared.objects.Object.TheVariants as object
use Rattle.forest_law.specs.Hashed.{IsExactFor}
use Rattle.forest_law.specs.Law.{IsLawful}
use Rattle.forest_law.specs.Numbers.{part_id, frame_id}
use Rattle.forest_law.specs.Objects.{IsPartOf, IsFrameOf}
use Rattle.forest_law.specs.References.{IsReference}
use Rattle.forest_law.proofs.HashLawLemmas.{hashes_are_exact}
use Rattle.forest_law.proofs.ObjectLemmas.{same_part}
use Rattle.forest_law.proofs.WorldLemmas.{releases_stay_lawful}
use Rattle.forest_world.specs.Held.{TreePass, shape_of_pass, HasPart}
use Rattle.hash_maintain.specs.Parting.{LacksPart, KnowsFrameIn, TakesPartition, TellsPart, TakesPartOut, PutsPartBack, GivesPart}
use Rattle.hash_maintain.proofs.PassLemmas.{after_none}

-- one object stands at a number
pub one_shown : (p : TreePass) (k : ℕ) (x y : Object) → Shows p k x → Shows p k y → x ≡ y
one_shown p k x y a b = same_some x y (some-injective (Some x) (Some y) (sym a ∙ b))

module _ (p q : TreePass) (k : ℕ)
    (told : DidTakeAfter IsLawful IsRight IsReference p (part_id (shape_of_pass p) k) q)
    (below : k < (shape_of_pass p).parts) (lacked : LacksPart p k) where
  abbrev sh : Shape
  sh = shape_of_pass p

  -- in the state in which it was free, the object is the partition
  part_there : (part : Part) × (told.value ≡ object.Part part)
  part_there =
      let w = told.was_free.whole in
      let shape : w.shape ≡ sh = told.was_free.fits.shape in
      let part =
      told.was_free.is_lawful.objects.kinds.parts k
      (subst (λ (s : Shape). k < s.parts) (sym shape) below) in (
        part.0,
        some-injective told.value (object.Part part.0)
            (sym told.was_free.value
            ∙ (ap (λ (s : Shape). get_elem? w.objects (part_id s k)) (sym shape) ∙ part.1)),
      )

  -- there it is exact of each block that is held
  exact_there : (part : Part) → told.value ≡ object.Part part → (b : ℕ) (f : Frame)
      → KnowsFrameIn p b f → IsExactFor sh k b part f
  exact_there part is b f knows =
      let w = told.was_free.whole in
      let shape : w.shape ≡ sh = told.was_free.fits.shape in
      let at : IsPartOf w.shape w.objects k part =
      ap (λ (s : Shape). get_elem? w.objects (part_id s k)) shape
      ∙ (told.was_free.value ∙ ap some is) in
      let frame : IsFrameOf w.shape w.objects b f =
      ap (λ (s : Shape). get_elem? w.objects (frame_id s b)) shape
      ∙ told.was_free.fits.known (frame_id sh b) (holding knows.0 (object.Frame f)) knows.1 in
      subst (λ s. IsExactFor s k b part f) shape
      (hashes_are_exact.exact w told.was_free.is_lawful k b part f at frame)

  pub takes_part : TakesPartition p k q
  takes_part = let there = part_there in
      let terms : (view q).terms ≡ (view p).terms =
      ap (λ (v : Knows Shape Object MadeChange Saying). v.terms) told.view in
      let has : Has q (part_id sh k) (object.Part there.0) (object.Part there.0) =
      subst (λ x. Has q (part_id sh k) x x) there.1 told.took.has in
      record {
        part = there.0;
        comes = record {
          lacked = lacked;
          refused = told.refused;
          tries = told.tries;
          view = told.view
              ∙ ap (λ x. with_held (with_refused (view p) told.refused) (part_id sh k)
              (Some (holding x x))) there.1;
          exact = exact_there there.0 there.1;
          count = told.took.count;
        };
        has = subst (λ (s : Shape). Has q (part_id s k) (object.Part there.0) (object.Part there.0))
            (ap (λ (t : Terms Shape). t.shape) (sym terms)) has;
        others = told.took.others;
      }

-- what a try tells
pub tells_part : (p q : TreePass) (k : ℕ) (r : Take) → k < (shape_of_pass p).parts → LacksPart p k
    → TellsTake IsLawful IsRight IsReference p (part_id (shape_of_pass p) k) r q
    → TellsPart p k r q
unfolding takes_part after_none
tells_part p q k Taken below lacked told =
    (takes_part p q k (after_none p q (part_id (shape_of_pass p) k) told) below lacked, refl)
tells_part p q k (Busy n) below lacked told =
    record { was_held = told.was_held; view = told.view; same = told.same }

-- an object in hand was taken out of its place, or put back there
module _ (p q : TreePass) (k : ℕ) (seat : (q.seat ≡ p.seat) × (count q ≡ count p))
    (v : Option Object) (put : values q ≡ set (values p) (part_id (shape_of_pass p) k) v) where
  same_view : view q ≡ view p
  same_view = ap (λ s. s.me.0) seat.0

  other_places : SameBut p q (part_id (shape_of_pass p) k)
  other_places j differs = (
    ap (λ (w : Knows Shape Object MadeChange Saying). get_elem? w.held j) same_view,
    ap (λ vs. get_elem? vs j) put ∙ set_else (values p) (part_id (shape_of_pass p) k) j v differs,
  )

  -- the place has what was put there
  put_here : (t : Object) (x : Part)
      → Holds (view p) (part_id (shape_of_pass p) k) (holding t (object.Part x))
      → get_elem? (values q) (part_id (shape_of_pass p) k) ≡ some v
  put_here t x held = ap (λ vs. get_elem? vs (part_id (shape_of_pass p) k)) put
      ∙ set_here (values p) (part_id (shape_of_pass p) k) v
      (let room = inside (view p).held (part_id (shape_of_pass p) k)
      (Some (holding t (object.Part x))) held in
      let long = length-values p in omega (arith, room, long))

  -- and is held as it was
  held_here : (t : Object) (x : Part)
      → Holds (view p) (part_id (shape_of_pass p) k) (holding t (object.Part x))
      → Holds (view q) (part_id (shape_of_pass p) k) (holding t (object.Part x))
  held_here t x held = ap (λ (w : Knows Shape Object MadeChange Saying).
      get_elem? w.held (part_id (shape_of_pass p) k)) same_view ∙ held

  shape_back : shape_of_pass p ≡ shape_of_pass q
  shape_back = ap (λ (w : Knows Shape Object MadeChange Saying). w.terms.shape) (sym same_view)

  pub takes_part_out : (part : Part) → v ≡ None
      → Shows p (part_id (shape_of_pass p) k) (object.Part part) → TakesPartOut p k part q
  takes_part_out part none shows = record {
    out = λ x y has. (
      record {
        held = subst (λ (s : Shape). (t : Object)
            × Holds (view q) (part_id s k) (holding t (object.Part x))) shape_back
            (has.held.0, held_here has.held.0 x has.held.1);
        out = subst (λ (s : Shape). get_elem? (values q) (part_id s k) ≡ some None) shape_back
            (put_here has.held.0 x has.held.1 ∙ ap some none);
      },
      same_part part y (one_shown p (part_id (shape_of_pass p) k) (object.Part part)
          (object.Part y) shows has.value),
    );
    others = other_places;
    view = same_view;
    count = seat.1;
  }

  pub puts_part_back : (part : Part) → v ≡ Some (object.Part part) → PutsPartBack p k part q
  puts_part_back part is = record {
    has = λ x out. subst
        (λ (s : Shape). Has q (part_id s k) (object.Part x) (object.Part part)) shape_back
        (record {
          held = (out.held.0, held_here out.held.0 x out.held.1);
          value = put_here out.held.0 x out.held.1 ∙ ap some is;
        });
    others = other_places;
    view = same_view;
    count = seat.1;
  }

-- what a partition that is given back leaves behind
pub gives_part : (p q : TreePass) (k : ℕ) (x : Part) → HasPart p k x x
    → DidRelease p (part_id (shape_of_pass p) k) q → GivesPart p k q
gives_part p q k x has told =
    let n = part_id (shape_of_pass p) k in
    let h = holding has.held.0 (object.Part x) in
    let same : told.holding ≡ h = same_some told.holding h
    (some-injective (Some told.holding) (Some h) (sym told.held ∙ has.held.1)) in
    let view' : view q ≡ releasing (view p) n h = told.view ∙ ap (releasing (view p) n) same in
    record {
      taken = has.held.0;
      part = x;
      held = has.held.1;
      view = view';
      lacks = ap (λ (v : Knows Shape Object MadeChange Saying).
          get_elem? (view q).held (part_id v.terms.shape k)) view' ∙ told.gave.lacks;
      others = told.gave.others;
      count = told.gave.count;
    }

-- a partition is given back lawfully
pub may_release_part : (p : TreePass) (k j : ℕ) (x : Part) → j ≡ part_id (shape_of_pass p) k
    → HasPart p k x x → MayRelease IsLawful IsRight IsReference (view p) j
may_release_part p k j x same has w law fits =
    releases_stay_lawful w j (object.Part x) law
    (fits.known j (holding has.held.0 (object.Part x))
    (subst (λ n. Holds (view p) n (holding has.held.0 (object.Part x))) (sym same) has.held.1)) tt
