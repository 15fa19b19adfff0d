-- Places and images stay right, and pages are led to.
use Rattle.std.proofs.Common.{◌≡◌, ◌≢◌, ◌⊎◌, inl, inr, ℕ, List, [], ◌∷◌, Option, Some, None, refl, sym, ap, subst, ◌∙◌}
use Rattle.std.specs.List.{AllByRecursion}
use mathlib.Core.Option.{some, some-injective}
use lib.ListN.{get_elem?}
use Rattle.index_page.specs.Page.{PageRows}
use Rattle.list_facts.proofs.Places.{same_some}
use Rattle.tree_law.specs.PageChanges.{PageChange, LeadTo}
use Rattle.tree_law.proofs.LeafLemmas.{each_in}
use Rattle.index_law.specs.Shape.{Shape}
use Rattle.forest_law.specs.declared.objects.Frame.{Frame}
use Rattle.forest_law.specs.declared.objects.Stored.{Stored}
use Rattle.forest_law.specs.declared.objects.Where.{Where}
use Rattle.forest_law.specs.declared.objects.Where.TheVariants.{Free, InFrame, Image}
use Rattle.forest_law.specs.declared.objects.Object.{Object}
use Rattle.forest_law.specs.declared.objects.Object.TheVariants as object
use Rattle.forest_law.specs.Numbers.{pool_id, frame_id}
use Rattle.forest_law.specs.State.{page_if, page_of, page_stored, images_of, where_at, places, image_at, images, page_where, pages_of}
use Rattle.forest_law.specs.Objects.{IsFrameOf, Becomes}
use Rattle.forest_law.specs.Kinds.{AreKinds, KeepsKind}
use Rattle.forest_law.specs.Placed.{IsPageIn, IsImaged, ArePlaced, KeepsPage, TurnsPage, PlacesStay, PlacesTurn}
use Rattle.forest_law.specs.Turns.{Turn, IsSeen, IsApart, page_changes, IsTurn, IsTurned}
use Rattle.forest_law.proofs.TurnLemmas.{each_both, takes_part, not_apart, seen_where}
use Rattle.forest_law.proofs.ObjectLemmas.{Stays, Changes, Leads, was_frame}
use Rattle.forest_law.proofs.KindsLemmas.{FrameBecomes, frame_fate}
use Rattle.forest_law.proofs.PlacesLemmas.{PlacesLead, CountsLead, IsPlacedBy, IsGone, places_lead}

module _ (sh : Shape) (xs ys : List Object) (before news : List (Option Object))
    (leads : Leads xs ys before news) (kinds : AreKinds sh xs)
    (keeps : (k : ℕ) (x y : Object) → Becomes before news k x y → KeepsKind x y)
    (turns : List Turn) (placed : ArePlaced sh xs)
    (each : AllByRecursion (IsTurn sh before news) turns)
    (frames : (b : ℕ) (x y : Frame)
    → Becomes before news (frame_id sh b) (object.Frame x) (object.Frame y)
    → KeepsPage turns b x y ⊎ TurnsPage turns b x y)
    (pool : PlacesStay before news turns ⊎ PlacesTurn before news turns) where
  -- what the places say of a turn
  abbrev pub Placing : Turn → Type 0
  Placing = IsPlacedBy sh xs ys before news leads kinds keeps turns placed each

  pub lead : PlacesLead sh xs ys before news leads kinds keeps turns placed each
  lead = places_lead sh xs ys before news leads kinds keeps turns placed each pool

  pub places_counted : CountsLead sh xs ys before news leads kinds keeps turns placed each
  places_counted = lead.counted

  -- the turn of a page, as it is seen and placed
  pub turn_at : (n : ℕ) (t : IsTurned turns n) → IsTurn sh before news t.turn × Placing t.turn
  turn_at n t = each_in (λ (t : Turn). IsTurn sh before news t × Placing t) turns
      (each_both (IsTurn sh before news) Placing turns each lead.turned) t.turn t.among

  -- the page of a frame that does not take part stays
  stays_apart : (n b : ℕ) → IsApart n turns → IsPageIn sh xs n b
      → (page_of (get_elem? ys (frame_id sh b)) ≡ page_of (get_elem? xs (frame_id sh b)))
      × IsPageIn sh ys n b
  stays_apart n b apart here =
      elim (frame_fate sh xs ys before news leads kinds keeps b here.frame here.at) [
        | inl stays ↦ (
          ap page_of stays.same,
          record {
            frame = here.frame;
            page = here.page;
            at = stays.same ∙ here.at;
            paged = here.paged;
            number = here.number;
          },
        )
        | inr g ↦ held g.0 g.1 (frames b here.frame g.0 g.1.becomes)
      ]
    where
      held : (g : Frame) → FrameBecomes sh xs ys before news leads kinds keeps b here.frame g
          → KeepsPage turns b here.frame g ⊎ TurnsPage turns b here.frame g
          → (page_of (get_elem? ys (frame_id sh b)) ≡ page_of (get_elem? xs (frame_id sh b)))
          × IsPageIn sh ys n b
      held g becomes (inl same) = (
        ap page_of becomes.is
            ∙ ((λ i. page_if (same.page i) (same.low i) (same.high i)) ∙ sym (ap page_of here.at)),
        record {
          frame = g;
          page = here.page;
          at = becomes.is;
          paged = same.page ∙ here.paged;
          number = here.number;
        },
      )
      held g becomes (inr other) =
          absurd (not_apart n here.page.head.number turns (sym here.number) apart
          (other.was here.page here.paged))

  -- the pages are led to
  pub pages_lead : LeadTo (pages_of sh xs) (pages_of sh ys) (page_changes turns)
  pages_lead = record {
    each = changes turns (each_both (IsTurn sh before news) Placing turns each lead.turned);
    others = λ n apart. other n (back n turns apart) (where_at (places xs) n) refl;
  }
    where
      changes : (ts : List Turn)
          → AllByRecursion (λ (t : Turn). IsTurn sh before news t × Placing t) ts
          → AllByRecursion
          (λ (c : PageChange). (pages_of sh xs c.number ≡ c.old)
          × (pages_of sh ys c.number ≡ c.new)) (page_changes ts)
      changes [] a = tt
      changes (t ∷ ts) a = (
        (
          ap (page_where sh xs t.number) a.0.1.0
              ∙ seen_where sh xs before leads.was t.number t.from t.old a.0.0.was,
          ap (page_where sh ys t.number) a.0.1.1
              ∙ seen_where sh ys news leads.is t.number t.to t.new a.0.0.is,
        ),
        changes ts a.1,
      )

      back : (n : ℕ) (ts : List Turn)
          → AllByRecursion (λ (c : PageChange). n ≢ c.number) (page_changes ts) → IsApart n ts
      back n [] a = tt
      back n (t ∷ ts) a = (a.0, back n ts a.1)

      same_place : (n : ℕ) (w : Where) → where_at (places xs) n ≡ w
          → page_where sh ys n w ≡ page_where sh xs n w → IsApart n turns
          → pages_of sh ys n ≡ pages_of sh xs n
      same_place n w e same apart =
          ap (page_where sh ys n) (lead.others n apart ∙ e)
          ∙ (same ∙ sym (ap (page_where sh xs n) e))

      other : (n : ℕ) → IsApart n turns → (w : Where) → where_at (places xs) n ≡ w
          → pages_of sh ys n ≡ pages_of sh xs n
      other n apart Free e = same_place n Free e refl apart
      other n apart Image e =
          same_place n Image e (ap page_stored (lead.stored n apart)) apart
      other n apart (InFrame b) e =
          same_place n (InFrame b) e (stays_apart n b apart (placed.there n b e)).0 apart

  -- each frame that a place names has its page still
  there : (n b : ℕ) → where_at (places ys) n ≡ InFrame b → IsApart n turns ⊎ IsTurned turns n
      → IsPageIn sh ys n b
  there n b e (inl apart) =
      (stays_apart n b apart (placed.there n b (sym (lead.others n apart) ∙ e))).1
  there n b e (inr t) = let here = turn_at n t in
      let to : t.turn.to ≡ InFrame b = sym here.1.1 ∙ (ap (where_at (places ys)) t.number ∙ e) in
      let s = subst (λ w. IsSeen sh news t.turn.number w t.turn.new) to here.0.is in
      record {
        frame = s.2.frame;
        page = s.2.has.rows;
        at = leads.is (frame_id sh b) (object.Frame s.2.frame) s.2.at;
        paged = s.2.has.paged;
        number = s.2.has.number ∙ t.number;
      }

  module _ (b : ℕ) (g : Frame) (q : PageRows) (at : IsFrameOf sh ys b g)
      (paged : g.page ≡ Some q) where
    -- the page of a free frame is named still
    named_free : Stays xs ys before news (frame_id sh b)
        → IsApart q.head.number turns ⊎ IsTurned turns q.head.number
        → where_at (places ys) q.head.number ≡ InFrame b
    named_free stays (inl apart) =
        lead.others q.head.number apart ∙ placed.named b g q (sym stays.same ∙ at) paged
    named_free stays (inr t) = let here = turn_at q.head.number t in
        let from : t.turn.from ≡ InFrame b =
        sym here.1.0
        ∙ (ap (where_at (places xs)) t.number ∙ placed.named b g q (sym stays.same ∙ at) paged) in
        let s = subst (λ w. IsSeen sh before t.turn.number w t.turn.old) from here.0.was in
        absurd (stays.free (object.Frame s.2.frame) s.2.at)

    -- and so is that of a held one
    named_held : (f : Frame) → IsFrameOf sh xs b f
        → KeepsPage turns b f g ⊎ TurnsPage turns b f g
        → where_at (places ys) q.head.number ≡ InFrame b
    named_held f was (inl same) = let before_is = placed.named b f q was (sym same.page ∙ paged) in
        elim (takes_part q.head.number turns) [
          | inl apart ↦ lead.others q.head.number apart ∙ before_is
          | inr t ↦ (let here = turn_at q.head.number t in
              absurd (each_in (λ (t : Turn). t.from ≢ InFrame b) turns same.apart t.turn t.among
              (sym here.1.0 ∙ (ap (where_at (places xs)) t.number ∙ before_is))))
        ]
    named_held f was (inr other) = let t = other.is q paged in
        let here = turn_at q.head.number t.0 in
        ap (where_at (places ys)) (sym t.0.number) ∙ (here.1.1 ∙ t.1)

    named : where_at (places ys) q.head.number ≡ InFrame b
    named = elim (leads.fate (frame_id sh b)) [
      | inl stays ↦ named_free stays (takes_part q.head.number turns)
      | inr c ↦ held c
    ]
      where
        held : Changes xs ys before news (frame_id sh b)
            → where_at (places ys) q.head.number ≡ InFrame b
        held c = let new : c.new ≡ object.Frame g =
            some-injective c.new (object.Frame g) (sym c.is ∙ at) in
            let f = was_frame c.old g
            (subst (KeepsKind c.old) new (keeps (frame_id sh b) c.old c.new c.becomes)) in
            named_held f.0 (c.was ∙ ap some f.1)
            (frames b f.0 g
            (c.becomes.0 ∙ ap (λ x. some (Some x)) f.1, c.becomes.1 ∙ ap (λ x. some (Some x)) new))

  -- a page that came to its image
  record Came (t : Turn) : Type 0 where
    image : Stored
    at : image_at (images ys) t.number ≡ Some image
    number : image.page.head.number ≡ t.number

  came : (t : Turn) → IsTurn sh before news t → t.to ≡ Image → Came t
  came t turn to = let s = (subst (λ w. IsSeen sh news t.number w t.new) to turn.is).2 in record {
    image = s.image;
    at = ap (λ o. image_at (images_of o) t.number)
        (leads.is pool_id (object.Pool s.pool) s.at) ∙ s.stored;
    number = s.has.number;
  }

  -- a page that has an image after it took part came to it
  came_there : (t : Turn) → IsTurn sh before news t
      → IsGone sh xs ys before news leads kinds keeps turns placed each t → (s : Stored)
      → image_at (images ys) t.number ≡ Some s → t.to ≡ Image
  came_there t turn gone s e = pick t.to refl
    where
      none_is_not : None ≡ Some s → ⊥
      none_is_not q = absurd cc

      not_free : Free ≡ Image → ⊥
      not_free q = absurd cc

      not_in : (b : ℕ) → InFrame b ≡ Image → ⊥
      not_in b q = absurd cc

      pick : (w : Where) → t.to ≡ w → t.to ≡ Image
      pick Image to = to
      pick Free to = absurd (none_is_not (sym (gone (λ q. not_free (sym to ∙ q))) ∙ e))
      pick (InFrame b) to = absurd (none_is_not (sym (gone (λ q. not_in b (sym to ∙ q))) ∙ e))

  -- each image is that of its page still
  imaged : (n : ℕ) (s : Stored) → image_at (images ys) n ≡ Some s
      → IsApart n turns ⊎ IsTurned turns n → IsImaged ys n s
  imaged n s e (inl apart) = let was = placed.imaged n s (sym (lead.stored n apart) ∙ e) in
      record { number = was.number; place = lead.others n apart ∙ was.place }
  imaged n s e (inr t) = let here = turn_at n t in
      let at : image_at (images ys) t.turn.number ≡ Some s =
      ap (image_at (images ys)) t.number ∙ e in
      let to = came_there t.turn here.0
      (each_in (IsGone sh xs ys before news leads kinds keeps turns placed each) turns lead.gone
      t.turn t.among) s at in
      let new = came t.turn here.0 to in
      record {
        number = ap (λ (z : Stored). z.page.head.number)
            (sym (same_some new.image s (sym new.at ∙ at))) ∙ (new.number ∙ t.number);
        place = ap (where_at (places ys)) (sym t.number) ∙ (here.1.1 ∙ to);
      }

  -- each page whose place says so has an image still
  stored : (n : ℕ) → where_at (places ys) n ≡ Image → IsApart n turns ⊎ IsTurned turns n
      → (s : Stored) × (image_at (images ys) n ≡ Some s)
  stored n e (inl apart) = let was = placed.stored n (sym (lead.others n apart) ∙ e) in
      (was.0, lead.stored n apart ∙ was.1)
  stored n e (inr t) = let here = turn_at n t in
      let new = came t.turn here.0
      (sym here.1.1 ∙ (ap (where_at (places ys)) t.number ∙ e)) in
      (new.image, ap (image_at (images ys)) (sym t.number) ∙ new.at)

  -- the places are right still
  pub placed_stay : ArePlaced sh ys
  placed_stay = record {
    named = named;
    there = λ n b e. there n b e (takes_part n turns);
    imaged = λ n s e. imaged n s e (takes_part n turns);
    stored = λ n e. stored n e (takes_part n turns);
  }
