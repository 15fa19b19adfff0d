-- What a lawful state tells of the pages of a descent.
use Rattle.std.proofs.Common.{◌≡◌, ◌≢◌, ℕ, suc, ◌<◌, Bool, Some, List, [], ◌∷◌, ◌++◌, inl, inr, sym, ap, subst, ◌∙◌, refl, arith, append_assoc}
use Rattle.std.specs.List.{AllByRecursion}
use lib.ListN.{get_elem?}
use Rattle.list_facts.proofs.Places.{same_some, inside, not_both}
use Rattle.key_tuple.specs.KeyPlace.{KeyPlace, IsCut}
use Rattle.key_tuple.specs.Order.{FieldList}
use Rattle.key_tuple.specs.Position.{position_cut}
use Rattle.key_tuple.specs.declared.mode.Mode.{Mode}
use Rattle.latch_law.specs.Views.{holding}
use Rattle.latch_space.specs.Has.{IsKnown}
use Rattle.latch_space.specs.Passes.{view}
use Rattle.index_page.specs.Page.{PageRows}
use Rattle.index_page.specs.Rows.{Row, last_of_rows, last_row_after}
use Rattle.tree_law.specs.Pages.{Page, HasFields, IsOrderly, is_own, low_place, high_place}
use Rattle.index_law.specs.Shape.{Shape}
use Rattle.forest_law.specs.declared.objects.Frame.{Frame}
use Rattle.forest_law.specs.declared.objects.Object.TheVariants as object
use Rattle.forest_law.specs.FramePages.{HasCutPage}
use Rattle.forest_law.specs.Law.{IsLawful}
use Rattle.forest_law.specs.Numbers.{frame_id, frames_of}
use Rattle.forest_law.specs.Objects.{IsFrameOf}
use Rattle.forest_law.specs.State.{ForestState, bound, page_within, pages_of, fields_for}
use Rattle.forest_law.proofs.FramePageLemmas.{frames_tell_pages, number_below}
use Rattle.tree_facts.specs.TreeFrames.{IsTreeFrame}
use Rattle.tree_facts.proofs.InnerLemmas.{inner_pages_point, children_have_cuts}
use Rattle.forest_world.specs.Held.{TreePass}
use Rattle.call_law.specs.Hands.{KnowsFrame, HoldsNoFrameBut}
use Rattle.call_law.specs.Spoken.{View}
use Rattle.buffer_pool.specs.Forests.{FitsTrees, IsFittedTree}
use Rattle.buffer_pool.specs.Hands.{MayGiveBack}
use Rattle.buffer_pool.specs.Pages.{HasTreePage, HasNumber, HoldsOtherPages, PointsAt}
use Rattle.buffer_pool.proofs.CallLemmas.{frame_has}
use Rattle.buffer_pool.proofs.PageLemmas.{tree_page_inside}
use Rattle.tree_descent.specs.Leaves.{HasCutWithin, IsPageFor, cut_in}
use Rattle.tree_descent.specs.Paths.{PicksChild}

-- some rows end with their last
ends_with_last : (x : Row) (xs : List Row) → (fore : List Row)
    × (x ∷ xs ≡ fore ++ last_row_after x xs ∷ [])
ends_with_last x [] = ([], refl)
ends_with_last x (y ∷ xs) = let r = ends_with_last y xs in (x ∷ r.0, ap (λ z. x ∷ z) r.1)

-- a row that is picked points to its child
pub picked_points : (cut : KeyPlace → Bool) (rows : List Row) (n : ℕ) → PicksChild cut rows n
    → PointsAt rows n
picked_points cut rows n picks = elim picks.picked [
  | inl last ↦ with_last last.left last.right last.row last.split last.last
      (same_some last.row picks.row (sym last.there ∙ picks.there))
  | inr first ↦ record {
    fore = [];
    this = picks.row;
    aft = first.rest;
    was = first.is
        ∙ ap (λ (x : Row). x ∷ first.rest)
        (same_some first.row picks.row (sym first.there ∙ picks.there));
    child = picks.child;
  }
]
  where
    with_last : (left right : List Row) (row : Row) → rows ≡ left ++ right
        → last_of_rows left ≡ Some row → row ≡ picks.row
        → PointsAt rows n
    with_last [] right row split last same = absurd cc
    with_last (x ∷ left) right row split last same = let end = ends_with_last x left in
        let is : last_row_after x left ≡ picks.row =
        same_some (last_row_after x left) row last ∙ same in
        record {
          fore = end.0;
          this = picks.row;
          aft = right;
          was = split
              ∙ (ap (λ z. z ++ right) (end.1 ∙ ap (λ (z : Row). end.0 ++ z ∷ []) is)
              ∙ append_assoc end.0 (picks.row ∷ []) right);
          child = picks.child;
        }

-- the page that was read is that of the frame
pub same_page : (f g : Frame) (page rows : PageRows) → g ≡ f → f.page ≡ Some page
    → g.page ≡ Some rows → rows ≡ page
same_page f g page rows same is read =
    same_some rows page (sym read ∙ (ap (λ (h : Frame). h.page) same ∙ is))

-- what was read of a page of a descent
module _ (shape : Shape) (b i level : ℕ) (f : Frame) (page : HasTreePage f i level)
    (order : IsOrderly (fields_for shape) (page_within page.page f.low f.high)) (rows : PageRows)
    (same : rows ≡ page.page) where
  pub read_fields : rows.head.fields ≡ fields_for shape i
  read_fields =
      ap (λ (z : PageRows). z.head.fields) same ∙ (order.fields ∙ ap (fields_for shape) page.index)

  pub read_level : rows.head.level ≡ level
  read_level = ap (λ (z : PageRows). z.head.level) same ∙ page.at_level

  -- the ends of the frame have as many fields
  pub read_low : (g : Frame) → g ≡ f → HasFields rows.head.fields (bound g.low)
  read_low g is = subst (λ (z : Frame). HasFields rows.head.fields (bound z.low)) (sym is)
      (subst (λ (z : PageRows). HasFields z.head.fields (bound f.low)) (sym same) order.low)

  pub read_high : (g : Frame) → g ≡ f → HasFields rows.head.fields (bound g.high)
  read_high g is = subst (λ (z : Frame). HasFields rows.head.fields (bound z.high)) (sym is)
      (subst (λ (z : PageRows). HasFields z.head.fields (bound f.high)) (sym same) order.high)

  pub read_picks : (mode : Mode) (tuple : FieldList) (n : ℕ)
      → PicksChild (position_cut rows.head.fields mode tuple) rows.rows n
      → PicksChild (cut_in shape i mode tuple) page.page.rows n
  read_picks mode tuple n picks =
      subst (λ (z : PageRows). PicksChild (cut_in shape i mode tuple) z.rows n) same
      (subst (λ k. PicksChild (position_cut k mode tuple) rows.rows n) read_fields picks)

-- a page of a number is that number's
pub number_is : (f : Frame) (n i level : ℕ) → HasNumber f n → (page : HasTreePage f i level)
    → page.page.head.number ≡ n
number_is f n i level has page = ap (λ (z : PageRows). z.head.number)
    (same_some page.page has.page (sym page.paged ∙ has.paged)) ∙ has.number

-- so it may be given back
pub may_give_back : (p : TreePass) → IsKnown p → (b i level : ℕ) (f : Frame)
    → KnowsFrame (view p) b f → HasTreePage f i level → MayGiveBack p b
may_give_back p known b i level f knows has =
    (f, frame_has p known b f knows, tree_page_inside f i level has)

module _ (w : ForestState) (law : IsLawful w) where
  -- a page with a cut is one of the pages
  pub cut_below : (cut : KeyPlace → Bool) (i level n : ℕ) → HasCutPage w cut i level n
      → n < w.shape.pages
  cut_below cut i level n has = number_below w law n has.page has.at

  module _ (v : View) (fits : FitsTrees w v) where
    -- a frame that is known is that of its block
    pub known_frame : (b : ℕ) (f : Frame) → KnowsFrame v b f → IsFrameOf w.shape w.objects b f
    known_frame b f knows = ap (λ (s : Shape). get_elem? w.objects (frame_id s b)) fits.shape
        ∙ fits.known (frame_id v.terms.shape b) (holding knows.0 (object.Frame f)) knows.1

    -- and one of the frames
    pub known_below : (b : ℕ) (f : Frame) → KnowsFrame v b f → b < frames_of v.terms.shape
    known_below b f knows = subst (λ (s : Shape). b < frames_of s) fits.shape
        (let room = inside w.objects (frame_id w.shape b) (object.Frame f)
        (known_frame b f knows) in
        let counted = law.objects.counted.objects in omega (arith, room, counted))

    -- its page is the state's page of its number
    pub known_page_is : (b : ℕ) (f : Frame) (rows : PageRows) → KnowsFrame v b f
        → f.page ≡ Some rows
        → pages_of w.shape w.objects rows.head.number ≡ Some (page_within rows f.low f.high)
    known_page_is b f rows knows paged =
        (frames_tell_pages w law b f rows (known_frame b f knows) paged).is

    -- and where that has a cut, the frame has what a descent asks for
    pub cut_is_for : (cut : KeyPlace → Bool) (i level n : ℕ) → HasCutPage w cut i level n
        → (b : ℕ) (f : Frame) → KnowsFrame v b f → HasNumber f n
        → IsPageFor v.terms.shape f i level cut
    cut_is_for cut i level n has b f knows number =
        let rows = number.page in
        let same : page_within rows f.low f.high ≡ has.page =
        same_some (page_within rows f.low f.high) has.page
        (sym (known_page_is b f rows knows number.paged)
        ∙ (ap (pages_of w.shape w.objects) number.number ∙ has.at)) in
        subst (λ (s : Shape). IsPageFor s f i level cut) fits.shape
        (record {
          is = search (rows, ap (λ m. is_own m rows.head.prev) number.number ∙ (ap (λ (z : Page). is_own n z.prev) same ∙ has.tree), ap (λ (z : Page). z.index) same ∙ has.index, ap (λ (z : Page). z.level) same ∙ has.at_level);
          order = (frames_tell_pages w law b f rows (known_frame b f knows) number.paged).order;
          within = record {
            low = ap (λ (z : Page). cut (low_place z.low)) same ∙ has.low;
            high = ap (λ (z : Page). cut (high_place z.high)) same ∙ has.high;
          };
        })

    -- a page that is known is in its frame
    pub known_tree_frame : (b i level : ℕ) (f : Frame) → KnowsFrame v b f
        → (page : HasTreePage f i level) → IsTreeFrame w b f page.page
    known_tree_frame b i level f knows page =
        record { at = known_frame b f knows; paged = page.paged; tree = page.tree }

  module _ (b i level : ℕ) (f : Frame) (page : HasTreePage f i (suc level))
      (is : IsTreeFrame w b f page.page) where
    -- an inner page has a row
    pub inner_has_rows : page.page.rows ≡ [] → ⊥
    inner_has_rows = (inner_pages_point w law b f page.page is
        (let above = page.at_level in omega (arith, above))).some

    module _ (cut : KeyPlace → Bool) (is_cut : IsCut cut) (within : HasCutWithin f cut) (n : ℕ)
        (picks : PicksChild cut page.page.rows n) where
      -- the picked child has the cut
      pub child_has_cut : HasCutPage w cut i level n
      child_has_cut = subst (λ j. HasCutPage w cut j level n) page.index
          (children_have_cuts w law b f page.page is level page.at_level cut is_cut within.low
          within.high picks.place picks.picked picks.row picks.there n picks.child)

      -- and is another page
      pub child_is_other : page.page.head.number ≡ n → ⊥
      child_is_other e = let has = child_has_cut in
          let same =
          same_some (page_within page.page f.low f.high) has.page
          (sym (frames_tell_pages w law b f page.page is.at page.paged).is
          ∙ (ap (pages_of w.shape w.objects) e ∙ has.at)) in
          let levels = ap (λ (z : Page). z.level) same in
          let low = has.at_level in
          let high = page.at_level in
          omega (arith, levels, low, high)

module _ (v : View) (fitted : IsFittedTree v) where
  -- a frame that is known is one of those that are held
  pub known_among : (bs : List ℕ) → HoldsNoFrameBut v bs → (b : ℕ) (f : Frame)
      → KnowsFrame v b f → AllByRecursion (λ (c : ℕ). b ≢ c) bs → ⊥
  known_among bs frames b f knows apart = not_both v.held (frame_id v.terms.shape b)
      (holding knows.0 (object.Frame f))
      (frames b (known_below fitted.whole fitted.is_lawful v fitted.fits b f knows) apart) knows.1

  -- where none is held, none has the page
  pub none_others : HoldsNoFrameBut v [] → (n : ℕ) → HoldsOtherPages v n
  none_others frames n b f page knows paged number = known_among [] frames b f knows tt
