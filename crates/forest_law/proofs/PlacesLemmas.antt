-- Where each page is after a step, and which images there are.
use Rattle.std.proofs.Common.{◌≡◌, ◌≢◌, ◌⊎◌, inl, inr, ℕ, List, Option, Some, None, length, refl, sym, ap, subst, ◌∙◌}
use Rattle.std.specs.List.{AllByRecursion}
use mathlib.Core.Option.{some}
use lib.ListN.{get_elem?}
use Rattle.index_law.specs.Shape.{Shape}
use Rattle.forest_law.specs.declared.objects.Stored.{Stored}
use Rattle.forest_law.specs.declared.objects.Where.TheVariants.{InFrame, Image}
use Rattle.forest_law.specs.declared.objects.Object.{Object}
use Rattle.forest_law.specs.declared.objects.Object.TheVariants as object
use Rattle.forest_law.specs.Numbers.{pool_id, frame_id}
use Rattle.forest_law.specs.State.{places_of, images_of, ages_of, where_at, places, image_at, images, ages}
use Rattle.forest_law.specs.Objects.{Becomes}
use Rattle.forest_law.specs.Kinds.{AreKinds, KeepsKind}
use Rattle.forest_law.specs.Placed.{ArePlaced, PlacesStay, PlacesTurn}
use Rattle.forest_law.specs.Turns.{Turn, IsSeen, IsApart, IsTurn}
use Rattle.forest_law.proofs.TurnLemmas.{each_both, each_so}
use Rattle.forest_law.proofs.ObjectLemmas.{Leads}
use Rattle.forest_law.proofs.KindsLemmas.{pool_becomes}

pub not_image : (b : ℕ) → InFrame b ≡ Image → ⊥
not_image b e = absurd cc

-- a page whose place says that it is no image has none
pub none_stored : (sh : Shape) (xs : List Object) → ArePlaced sh xs → (n : ℕ)
    → where_at (places xs) n ≢ Image → image_at (images xs) n ≡ None
none_stored sh xs placed n isnt = pick (image_at (images xs) n) refl
  where
    pick : (o : Option Stored) → image_at (images xs) n ≡ o → image_at (images xs) n ≡ None
    pick None e = e
    pick (Some s) e = absurd (isnt (placed.imaged n s e).place)

module _ (sh : Shape) (xs ys : List Object) (before news : List (Option Object))
    (leads : Leads xs ys before news) (kinds : AreKinds sh xs)
    (keeps : (k : ℕ) (x y : Object) → Becomes before news k x y → KeepsKind x y)
    (turns : List Turn) (placed : ArePlaced sh xs)
    (each : AllByRecursion (IsTurn sh before news) turns) where
  -- the places before and after are those of the turn
  abbrev pub IsPlacedBy : Turn → Type 0
  IsPlacedBy t =
      (where_at (places xs) t.number ≡ t.from) × (where_at (places ys) t.number ≡ t.to)

  -- a page that takes part and is no image then has none
  abbrev pub IsGone : Turn → Type 0
  IsGone t = t.to ≢ Image → image_at (images ys) t.number ≡ None

  -- there are as many places, images and ages
  pub record CountsLead : Type 0 where
    pub named : length (places ys) ≡ length (places xs)
    pub stored : length (images ys) ≡ length (images xs)
    pub aged : length (ages ys) ≡ length (ages xs)

  -- the places and images of the pages that take part, those of all others, and how many there are
  pub record PlacesLead : Type 0 where
    pub turned : AllByRecursion IsPlacedBy turns
    pub gone : AllByRecursion IsGone turns
    pub others : (n : ℕ) → IsApart n turns → where_at (places ys) n ≡ where_at (places xs) n
    pub stored : (n : ℕ) → IsApart n turns → image_at (images ys) n ≡ image_at (images xs) n
    pub counted : CountsLead

  -- a page that is seen in a frame in hand is where the pool says
  hand_placed : (t : Turn) → IsTurn sh before news t → (b : ℕ) → t.from ≡ InFrame b
      → where_at (places xs) t.number ≡ InFrame b
  hand_placed t turn b from =
      let s = subst (λ w. IsSeen sh before t.number w t.old) from turn.was in
      ap (where_at (places xs)) (sym s.2.has.number)
      ∙ placed.named b s.2.frame s.2.has.rows
      (leads.was (frame_id sh b) (object.Frame s.2.frame) s.2.at) s.2.has.paged

  -- the pool is at rest in the state as well
  record PoolStays : Type 0 where
    named : places ys ≡ places xs
    stored : images ys ≡ images xs
    aged : length (ages ys) ≡ length (ages xs)

  pool_stays : PlacesStay before news turns → PoolStays
  pool_stays stay = elim (leads.fate pool_id) [
    | inl s ↦ record {
      named = ap places_of s.same;
      stored = ap images_of s.same;
      aged = ap (λ o. length (ages_of o)) s.same;
    }
    | inr c ↦ (let q = pool_becomes sh xs ys before news leads kinds keeps c in
        let rests = stay.same kinds.pool.0 q.new q.becomes in record {
          named = ap places_of q.is ∙ (rests.places ∙ sym (ap places_of kinds.pool.1));
          stored = ap images_of q.is ∙ (rests.images ∙ sym (ap images_of kinds.pool.1));
          aged = ap (λ o. length (ages_of o)) q.is
              ∙ (rests.ages ∙ sym (ap (λ o. length (ages_of o)) kinds.pool.1));
        })
  ]

  stayed : PlacesStay before news turns → PlacesLead
  stayed stay = let same = pool_stays stay in record {
    turned = each_so
        (λ (t : Turn). IsTurn sh before news t
        × ((b : ℕ) × (t.from ≡ InFrame b) × (t.to ≡ InFrame b))) IsPlacedBy turns
        (λ t h. (let at = hand_placed t h.0 h.1.0 h.1.1 in
        (at ∙ sym h.1.1, ap (λ z. where_at z t.number) same.named ∙ (at ∙ sym h.1.2))))
        (each_both (IsTurn sh before news)
        (λ (t : Turn). (b : ℕ) × (t.from ≡ InFrame b) × (t.to ≡ InFrame b)) turns each stay.still);
    gone = each_so
        (λ (t : Turn). IsTurn sh before news t
        × ((b : ℕ) × (t.from ≡ InFrame b) × (t.to ≡ InFrame b))) IsGone turns
        (λ t h isnt. ap (λ z. image_at z t.number) same.stored
        ∙ none_stored sh xs placed t.number
        (λ e. not_image h.1.0 (sym (hand_placed t h.0 h.1.0 h.1.1) ∙ e)))
        (each_both (IsTurn sh before news)
        (λ (t : Turn). (b : ℕ) × (t.from ≡ InFrame b) × (t.to ≡ InFrame b)) turns each stay.still);
    others = λ n apart. ap (λ z. where_at z n) same.named;
    stored = λ n apart. ap (λ z. image_at z n) same.stored;
    counted = record {
      named = ap length same.named;
      stored = ap length same.stored;
      aged = same.aged;
    };
  }

  turned : PlacesTurn before news turns → PlacesLead
  turned turn = record {
    turned = each_so
        (λ (t : Turn). (where_at turn.old.place.items t.number ≡ t.from)
        × (where_at turn.new.place.items t.number ≡ t.to)) IsPlacedBy turns
        (λ t h. (
          ap (λ o. where_at (places_of o) t.number) was ∙ h.0,
          ap (λ o. where_at (places_of o) t.number) is ∙ h.1,
        )) turn.each;
    gone = each_so
        (λ (t : Turn). t.to ≢ Image → image_at turn.new.images.items t.number ≡ None) IsGone turns
        (λ t none isnt. ap (λ o. image_at (images_of o) t.number) is ∙ none isnt) turn.gone;
    others = λ n apart. ap (λ o. where_at (places_of o) n) is
        ∙ ((turn.others n apart).place ∙ sym (ap (λ o. where_at (places_of o) n) was));
    stored = λ n apart. ap (λ o. image_at (images_of o) n) is
        ∙ ((turn.others n apart).image ∙ sym (ap (λ o. image_at (images_of o) n) was));
    counted = record {
      named = ap (λ o. length (places_of o)) is
          ∙ (turn.counted.places ∙ sym (ap (λ o. length (places_of o)) was));
      stored = ap (λ o. length (images_of o)) is
          ∙ (turn.counted.images ∙ sym (ap (λ o. length (images_of o)) was));
      aged = ap (λ o. length (ages_of o)) is
          ∙ (turn.counted.ages ∙ sym (ap (λ o. length (ages_of o)) was));
    };
  }
    where
      was : get_elem? xs pool_id ≡ some (object.Pool turn.old)
      was = leads.was pool_id (object.Pool turn.old) turn.becomes.0

      is : get_elem? ys pool_id ≡ some (object.Pool turn.new)
      is = leads.is pool_id (object.Pool turn.new) turn.becomes.1

  pub places_lead : PlacesStay before news turns ⊎ PlacesTurn before news turns → PlacesLead
  places_lead (inl stay) = stayed stay
  places_lead (inr turn) = turned turn
