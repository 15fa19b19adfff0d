-- What is in hand keeps one page outside the trees at most.
use Rattle.std.proofs.Common.{◌≡◌, ◌⊎◌, inl, inr, ℕ, true, false, [], ◌∷◌, List, map, sym, ap, subst, ◌∙◌, refl, Option, Some}
use Rattle.std.specs.List.{AllByRecursion}
use mathlib.Core.Option.{some, some-injective}
use lib.ListN.{get_elem?}
use Rattle.list_facts.proofs.Places.{same_some}
use Rattle.tree_law.specs.Pages.{Page, is_own}
use Rattle.tree_law.proofs.LeafLemmas.{each_in}
use Rattle.index_law.specs.Shape.{Shape}
use Rattle.forest_law.specs.declared.objects.Frame.{Frame}
use Rattle.forest_law.specs.declared.objects.Where.TheVariants.{InFrame, Image}
use Rattle.forest_law.specs.declared.objects.Object.{Object}
use Rattle.forest_law.specs.declared.objects.Object.TheVariants as object
use Rattle.forest_law.specs.Numbers.{frame_id}
use Rattle.forest_law.specs.State.{page_if}
use Rattle.forest_law.specs.Objects.{Becomes}
use Rattle.forest_law.specs.Kinds.{KeepsKind}
use Rattle.forest_law.specs.Turns.{Turn, IsSeen, IsTurn}
use Rattle.forest_law.specs.Placed.{KeepsPage, TurnsPage}
use Rattle.forest_law.specs.Steps.{FrameStep}
use Rattle.forest_law.specs.Outside.{IsOutsideInHand, HasNoneOutside, HasOneOutside, NewsAreHeld}
use Rattle.forest_law.proofs.TurnLemmas.{turn_of, turns_of, each_both, each_so}
use Rattle.forest_law.proofs.ObjectLemmas.{same_frame, was_frame}
use Rattle.forest_law.proofs.PlacesLemmas.{not_image}

-- what holds of what is made of each
pub each_made : {A B : Type 0} (f : A → B) (P : A → Type 0) (Q : B → Type 0)
    → ((x : A) → P x → Q (f x)) → (xs : List A) → AllByRecursion P xs → AllByRecursion Q (map f xs)
each_made f P Q so [] a = tt
each_made f P Q so (x ∷ xs) a = (so x a.0, each_made f P Q so xs a.1)

-- the page was outside the trees before, in a frame
pub record WasOutside (t : Turn) : Type 0 where
  pub block : ℕ
  pub from : t.from ≡ InFrame block
  pub page : Page
  pub old : t.old ≡ Some page
  pub own : is_own t.number page.prev ≡ true

-- where a page that takes part is outside the trees afterwards, this holds
abbrev pub IfOutside : (Turn → Type 0) → Turn → Type 0
IfOutside P t = (page : Page) → t.new ≡ Some page → is_own t.number page.prev ≡ true → P t

-- each page outside the trees that takes part was so before
abbrev pub AddNoneOutside : List Turn → Type 0
AddNoneOutside turns = AllByRecursion (IfOutside WasOutside) turns

-- none was in hand, and of those that take part one at most is outside the trees afterwards
pub record OnlyOutside (sh : Shape) (before : List (Option Object))
    (turns : List Turn) : Type 0 where
  pub none : HasNoneOutside sh before
  pub number : ℕ
  pub each : AllByRecursion (IfOutside (λ t. t.number ≡ number)) turns

-- the step's page is outside the trees afterwards only where it was so before
abbrev pub StaysOutside : FrameStep → Type 0
StaysOutside s = is_own s.number s.is.prev ≡ true → is_own s.number s.was.prev ≡ true

-- or only where it is of this number
abbrev pub IsOnlyOutside : ℕ → FrameStep → Type 0
IsOnlyOutside n s = is_own s.number s.is.prev ≡ true → s.number ≡ n

-- no step's page begins to be outside the trees, or none was in hand and one page at most does
abbrev pub OutsideSuits : Shape → List (Option Object) → List FrameStep → Type 0
OutsideSuits sh before steps = AllByRecursion StaysOutside steps
    ⊎ (HasNoneOutside sh before × (n : ℕ) × AllByRecursion (IsOnlyOutside n) steps)

-- what is of the trees isn't outside them
pub not_outside : {A : Type 0} (n : ℕ) (prev : Option ℕ) → is_own n prev ≡ false
    → is_own n prev ≡ true → A
not_outside n prev tree own = absurd cc

module _ (sh : Shape) (before : List (Option Object)) (steps : List FrameStep) where
  -- a step's page, whatever its name
  own_is : (s : FrameStep) (page : Page) → Some s.is ≡ Some page
      → is_own s.number page.prev ≡ true → is_own s.number s.is.prev ≡ true
  own_is s page e own =
      ap (λ (p : Page). is_own s.number p.prev) (same_some s.is page e) ∙ own

  -- so it is with the steps' turns
  pub turns_suit : OutsideSuits sh before steps
      → AddNoneOutside (turns_of steps) ⊎ OnlyOutside sh before (turns_of steps)
  turns_suit (inl stay) = inl (each_made turn_of StaysOutside (IfOutside WasOutside)
      (λ s stays page e own. record {
        block = s.hand.block;
        from = refl;
        page = s.was;
        old = refl;
        own = stays (own_is s page e own);
      }) steps stay)
  turns_suit (inr only) = inr (record {
    none = only.0;
    number = only.1;
    each = each_made turn_of (IsOnlyOutside only.1) (IfOutside (λ t. t.number ≡ only.1))
        (λ s is page e own. is (own_is s page e own)) steps only.2;
  })

-- a page that stays in its frame goes to no image
pub still_framed : (turns : List Turn)
    → AllByRecursion (λ (t : Turn). (b : ℕ) × (t.from ≡ InFrame b) × (t.to ≡ InFrame b)) turns
    → AllByRecursion (λ (t : Turn). t.to ≡ Image → (page : Page) → t.new ≡ Some page
    → is_own t.number page.prev ≡ false) turns
still_framed turns still = each_so
    (λ (t : Turn). (b : ℕ) × (t.from ≡ InFrame b) × (t.to ≡ InFrame b))
    (λ (t : Turn). t.to ≡ Image → (page : Page) → t.new ≡ Some page
    → is_own t.number page.prev ≡ false) turns
    (λ t s to. absurd (not_image s.0 (sym s.2 ∙ to))) still

module _ (sh : Shape) (before news : List (Option Object))
    (kinds : (k : ℕ) (x y : Object) → Becomes before news k x y → KeepsKind x y)
    (turns : List Turn) (each : AllByRecursion (IsTurn sh before news) turns)
    (frames : (b : ℕ) (x y : Frame)
    → Becomes before news (frame_id sh b) (object.Frame x) (object.Frame y)
    → KeepsPage turns b x y ⊎ TurnsPage turns b x y) where
  -- a frame in hand was a frame in hand
  record CameFrom (b : ℕ) (y : Frame) : Type 0 where
    old : Frame
    becomes : Becomes before news (frame_id sh b) (object.Frame old) (object.Frame y)

  frame_it_was : NewsAreHeld before news → (b : ℕ) (y : Frame)
      → get_elem? news (frame_id sh b) ≡ some (Some (object.Frame y)) → CameFrom b y
  frame_it_was held b y at = let x = held (frame_id sh b) (object.Frame y) at in
      let f = was_frame x.0 y (kinds (frame_id sh b) x.0 (object.Frame y) (x.1, at)) in
      record { old = f.0; becomes = (x.1 ∙ ap (λ z. some (Some z)) f.1, at) }

  module _ (Q : ℕ → Type 0) (turned : AllByRecursion (IfOutside (λ t. Q t.number)) turns)
      (kept : (n : ℕ) → IsOutsideInHand sh before n → Q n) where
    -- a page outside the trees in a frame that keeps it was in hand
    from_kept : (n : ℕ) (o : IsOutsideInHand sh news n) (x : Frame)
        → Becomes before news (frame_id sh o.block) (object.Frame x) (object.Frame o.hand.frame)
        → KeepsPage turns o.block x o.hand.frame → Q n
    from_kept n o x becomes same = kept n (record {
      block = o.block;
      page = o.page;
      hand = record {
        frame = x;
        at = becomes.0;
        has = record {
          rows = o.hand.has.rows;
          paged = sym same.page ∙ o.hand.has.paged;
          number = o.hand.has.number;
          is = (λ i. page_if (sym same.page i) (sym same.low i) (sym same.high i)) ∙ o.hand.has.is;
        };
      };
      own = o.own;
    })

    -- and one in a frame whose page takes part takes part
    from_turned : (n : ℕ) (o : IsOutsideInHand sh news n) (x : Frame)
        → TurnsPage turns o.block x o.hand.frame → Q n
    from_turned n o x other = let has = o.hand.has in
        let t = other.is has.rows has.paged in
        let turn = each_in (IsTurn sh before news) turns each t.0.turn t.0.among in
        let s = subst (λ w. IsSeen sh news t.0.turn.number w t.0.turn.new) t.1 turn.is in
        let frame : s.2.frame ≡ o.hand.frame = same_frame s.2.frame o.hand.frame
        (same_some (object.Frame s.2.frame) (object.Frame o.hand.frame)
        (some-injective (Some (object.Frame s.2.frame)) (Some (object.Frame o.hand.frame))
        (sym s.2.at ∙ o.hand.at))) in
        let page : s.0 ≡ o.page = same_some s.0 o.page
        (sym s.2.has.is ∙ (ap (λ (f : Frame). page_if f.page f.low f.high) frame ∙ has.is)) in
        let number : t.0.turn.number ≡ n = t.0.number ∙ has.number in
        subst Q number
        (each_in (IfOutside (λ u. Q u.number)) turns turned t.0.turn t.0.among o.page
        (s.1 ∙ ap Some page) (ap (λ m. is_own m o.page.prev) number ∙ o.own))

    -- so what holds of those that take part and of those that were in hand holds of all in hand
    all_outside : NewsAreHeld before news → (n : ℕ) → IsOutsideInHand sh news n → Q n
    all_outside held n o = let was = frame_it_was held o.block o.hand.frame o.hand.at in
        elim (frames o.block was.old o.hand.frame was.becomes) [
          | inl same ↦ from_kept n o was.old was.becomes same
          | inr other ↦ from_turned n o was.old other
        ]

  -- a page that was outside the trees in a frame was so in hand
  was_in_hand : AddNoneOutside turns
      → AllByRecursion (IfOutside (λ t. IsOutsideInHand sh before t.number)) turns
  was_in_hand none = each_so
      (λ (t : Turn). IsTurn sh before news t × IfOutside WasOutside t)
      (IfOutside (λ t. IsOutsideInHand sh before t.number)) turns
      (λ t a page new own. one t a.0 (a.1 page new own))
      (each_both (IsTurn sh before news) (IfOutside WasOutside) turns each none)
    where
      one : (t : Turn) → IsTurn sh before news t → WasOutside t
          → IsOutsideInHand sh before t.number
      one t turn o = let s = subst (λ w. IsSeen sh before t.number w t.old) o.from turn.was in
          let page : s.0 ≡ o.page = same_some s.0 o.page (sym s.1 ∙ o.old) in
          record {
            block = o.block;
            page = s.0;
            hand = s.2;
            own = ap (λ (p : Page). is_own t.number p.prev) page ∙ o.own;
          }

  -- what is in hand keeps one page outside the trees
  pub one_stays : AddNoneOutside turns ⊎ OnlyOutside sh before turns → NewsAreHeld before news
      → HasOneOutside sh before → HasOneOutside sh news
  one_stays (inl none) held one n m o p =
      let was = all_outside (IsOutsideInHand sh before) (was_in_hand none) (λ k q. q) held in
      one n m (was n o) (was m p)
  one_stays (inr only) held one n m o p =
      let is = all_outside (λ k. k ≡ only.number) only.each (λ k q. absurd (only.none k q)) held in
      is n o ∙ sym (is m p)
