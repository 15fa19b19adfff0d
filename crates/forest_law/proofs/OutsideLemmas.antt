-- Pages outside the trees stay held.
use Rattle.std.proofs.Common.{◌≡◌, ◌≢◌, inl, inr, ℕ, ◌+◌, ◌<◌, true, false, [], ◌∷◌, List, sym, ap, subst, ◌∙◌, arith, refl, Option, Some, None}
use Rattle.std.specs.List.{AllByRecursion}
use Rattle.std.proofs.lemmas.Bool.{cases_eq}
use mathlib.Core.Option.{some, some-injective}
use lib.ListN.{get_elem?}
use Rattle.latch_law.specs.Whole.{IsHeldBy}
use Rattle.latch_law.specs.Moves.{AreHeld, AreNewsOf}
use Rattle.tree_law.specs.Pages.{Page, is_own}
use Rattle.tree_law.specs.PageChanges.{PageChange}
use Rattle.tree_law.proofs.LeafLemmas.{each_in}
use Rattle.index_law.specs.Answers.{MadeChange}
use Rattle.index_law.specs.Shape.{Shape}
use Rattle.index_law.specs.State.{Entries}
use Rattle.forest_law.specs.declared.objects.Where.{Where}
use Rattle.forest_law.specs.declared.objects.Where.TheVariants.{Free, InFrame, Image}
use Rattle.forest_law.specs.declared.objects.Object.{Object}
use Rattle.forest_law.specs.declared.objects.Object.TheVariants as object
use Rattle.forest_law.specs.Numbers.{frame_id}
use Rattle.forest_law.specs.State.{ForestState, page_in, page_of, page_where, where_at, places, pages_of}
use Rattle.forest_law.specs.Placed.{ArePlaced, IsPageIn}
use Rattle.forest_law.specs.Turns.{Turn, IsSeen, IsApart, IsTurned, page_changes}
use Rattle.forest_law.specs.Law.{IsLawful, Follows}
use Rattle.forest_law.specs.Outside.{IsHeldOutside, AreOutsideHeld, IsOutsideInHand}
use Rattle.forest_law.proofs.ObjectLemmas.{Leads}
use Rattle.forest_law.proofs.TurnLemmas.{takes_part, seen_where}
use Rattle.forest_law.proofs.PlacedLemmas.{lead, turn_at, pages_lead, placed_stay}
use Rattle.forest_law.proofs.OneOutsideLemmas.{not_outside}

-- a frame that a place names has the page of the state
pub framed_page : (sh : Shape) (xs : List Object) (n b : ℕ) (page : Page)
    → where_at (places xs) n ≡ InFrame b → pages_of sh xs n ≡ Some page → (i : IsPageIn sh xs n b)
    → page_in i.frame ≡ Some page
framed_page sh xs n b page place is i =
    sym (ap page_of i.at) ∙ (sym (ap (page_where sh xs n) place) ∙ is)

module _ (w : ForestState) (name : ℕ) (ys : List Object) (lists : List Entries)
    (before news : List (Option Object)) (change : Option (ℕ × MadeChange)) (law : IsLawful w)
    (below : name < w.passes) (held : AreHeld w name before) (are_news : AreNewsOf before news)
    (leads : Leads w.objects ys before news) (f : Follows w.shape before news change) where
  abbrev sh : Shape
  sh = w.shape

  abbrev xs : List Object
  xs = w.objects

  -- the state with what is held changed
  abbrev next : ForestState
  next = record w { objects = ys; lists = lists }

  -- the places after the step
  after : ArePlaced sh ys
  after = placed_stay sh xs ys before news leads law.objects.kinds f.kinds f.turns
      law.objects.placed f.each f.frames f.pool

  -- a page that takes no part has its place still
  place_stays : (n : ℕ) → IsApart n f.turns → where_at (places ys) n ≡ where_at (places xs) n
  place_stays n apart = (lead sh xs ys before news leads law.objects.kinds f.kinds f.turns
      law.objects.placed f.each f.frames f.pool).others n apart

  -- and it is the page that it was
  page_stays : (n : ℕ) → IsApart n f.turns → pages_of sh ys n ≡ pages_of sh xs n
  page_stays n apart = (pages_lead sh xs ys before news leads law.objects.kinds f.kinds f.turns
      law.objects.placed f.each f.frames f.pool).others n (forth f.turns apart)
    where
      forth : (ts : List Turn) → IsApart n ts
          → AllByRecursion (λ (c : PageChange). n ≢ c.number) (page_changes ts)
      forth [] a = tt
      forth (t ∷ ts) a = (a.0, forth ts a.1)

  -- what is in hand after the step this pass holds
  holds : (k : ℕ) (y : Object) → get_elem? news k ≡ some (Some y) → IsHeldBy w k name
  holds k y at = let x = are_news.only k y at in (held.each k x.0 x.1).0

  -- a page that takes part is seen at its place
  seen_at : (n : ℕ) (t : IsTurned f.turns n) (at : Where) → where_at (places ys) n ≡ at
      → (t.turn.to ≡ at) × IsSeen sh news n at t.turn.new
  seen_at n t at place = let here = turn_at sh xs ys before news leads law.objects.kinds f.kinds
      f.turns law.objects.placed f.each f.frames f.pool n t in
      let to : t.turn.to ≡ at = sym here.1.1 ∙ (ap (where_at (places ys)) t.number ∙ place) in (
        to,
        subst (λ m. IsSeen sh news m at t.turn.new) t.number
            (subst (λ z. IsSeen sh news t.turn.number z t.turn.new) to here.0.is),
      )

  -- where it is outside the trees, this pass holds its frame
  turned_held : (n : ℕ) (page : Page) → pages_of sh ys n ≡ Some page → is_own n page.prev ≡ true
      → (t : IsTurned f.turns n) (at : Where) → where_at (places ys) n ≡ at
      → IsHeldOutside next n name
  turned_held n page is own t at place = pick at place (seen_at n t at place)
    where
      none_is : None ≡ Some page → ⊥
      none_is e = absurd cc

      new : t.turn.new ≡ Some page
      new = sym (seen_where sh ys news leads.is n (where_at (places ys) n) t.turn.new
          (seen_at n t (where_at (places ys) n) refl).1) ∙ is

      tree : t.turn.to ≡ Image → is_own n page.prev ≡ false
      tree to = ap (λ m. is_own m page.prev) (sym t.number)
          ∙ each_in (λ (t : Turn). t.to ≡ Image → (page : Page) → t.new ≡ Some page
          → is_own t.number page.prev ≡ false) f.turns f.outside.framed t.turn t.among to page new

      pick : (at : Where) → where_at (places ys) n ≡ at
          → (t.turn.to ≡ at) × IsSeen sh news n at t.turn.new → IsHeldOutside next n name
      pick Free place s = absurd (none_is (sym s.1 ∙ new))
      pick Image place s = not_outside n page.prev (tree s.0) own
      pick (InFrame b) place s = record {
        block = b;
        page = page;
        place = place;
        is = is;
        own = own;
        holder = holds (frame_id sh b) (object.Frame s.1.2.frame) s.1.2.at;
      }

  -- a page that takes no part has its holder still
  apart_held : (n m : ℕ) → IsApart n f.turns → IsHeldOutside w n m → IsHeldOutside next n m
  apart_held n m apart o = record {
    block = o.block;
    page = o.page;
    place = place_stays n apart ∙ o.place;
    is = page_stays n apart ∙ o.is;
    own = o.own;
    holder = o.holder;
  }

  apart_was : (n m : ℕ) → IsApart n f.turns → IsHeldOutside next n m → IsHeldOutside w n m
  apart_was n m apart o = record {
    block = o.block;
    page = o.page;
    place = sym (place_stays n apart) ∙ o.place;
    is = sym (page_stays n apart) ∙ o.is;
    own = o.own;
    holder = o.holder;
  }

  -- and so has each page of another pass
  others_was : (n m : ℕ) → m ≢ name → IsHeldOutside next n m → IsHeldOutside w n m
  others_was n m other o = elim (takes_part n f.turns) [
    | inl apart ↦ apart_was n m apart o
    | inr t ↦ (let s = (seen_at n t (InFrame o.block) o.place).1 in
        let mine = holds (frame_id sh o.block) (object.Frame s.2.frame) s.2.at in
        let same : m + 1 ≡ name + 1 = some-injective (m + 1) (name + 1) (sym o.holder ∙ mine) in
        absurd (other (omega (arith, same))))
  ]

  -- a page outside the trees that this pass holds is in hand
  outside_in_hand : (n : ℕ) → IsHeldOutside next n name → IsOutsideInHand sh news n
  outside_in_hand n o = let k = frame_id sh o.block in
      let i = after.there n o.block o.place in
      let x = held.all k o.holder in
      let y = are_news.each k x.0 x.1 in
      let same : y.0 ≡ object.Frame i.frame =
      some-injective y.0 (object.Frame i.frame) (sym (leads.is k y.0 y.1) ∙ i.at) in
      record {
        block = o.block;
        page = o.page;
        hand = record {
          frame = i.frame;
          at = y.1 ∙ ap (λ z. some (Some z)) same;
          has = record {
            rows = i.page;
            paged = i.paged;
            number = i.number;
            is = framed_page sh ys n o.block o.page o.place o.is i;
          };
        };
        own = o.own;
      }

  -- and one that was in hand this pass held
  hand_held : (n : ℕ) → IsOutsideInHand sh before n → IsHeldOutside w n name
  hand_held n o = let has = o.hand.has in
      let h = held.each (frame_id sh o.block) (object.Frame o.hand.frame) o.hand.at in
      let place : where_at (places xs) n ≡ InFrame o.block =
      ap (where_at (places xs)) (sym has.number)
      ∙ law.objects.placed.named o.block o.hand.frame has.rows h.1 has.paged in
      record {
        block = o.block;
        page = o.page;
        place = place;
        is = ap (page_where sh xs n) place ∙ (ap page_of h.1 ∙ has.is);
        own = o.own;
        holder = h.0;
      }

  -- no pass holds two
  one : (n m holder : ℕ) → IsHeldOutside next n holder → IsHeldOutside next m holder → n ≡ m
  one n m holder o p = elim (cases_eq holder name) [
    | inl e ↦ f.outside.one are_news.only
        (λ i j q r. law.outside.one i j name (hand_held i q) (hand_held j r)) n m
        (outside_in_hand n (subst (IsHeldOutside next n) e o))
        (outside_in_hand m (subst (IsHeldOutside next m) e p))
    | inr ne ↦ law.outside.one n m holder (others_was n holder ne o) (others_was m holder ne p)
  ]

  -- after a step each page outside the trees is held, and no pass holds two
  pub outside_stays : AreOutsideHeld (record w { objects = ys; lists = lists })
  outside_stays = record {
    held = λ n page is own. elim (takes_part n f.turns) [
      | inl apart ↦ (let o = law.outside.held n page (sym (page_stays n apart) ∙ is) own in
          (o.0, o.1, apart_held n o.0 apart o.2))
      | inr t ↦ (name, below, turned_held n page is own t (where_at (places ys) n) refl)
    ];
    one = one;
  }
