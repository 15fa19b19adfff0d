-- What a lawful state tells of the leaf beside one that is held.
use Rattle.std.proofs.Common.{◌≡◌, ◌≢◌, ℕ, Some, false, [], ◌∷◌, inl, inr, sym, ap, subst, ◌∙◌}
use Rattle.std.proofs.lemmas.Bool.{cases_eq}
use lib.ListN.{get_elem?}
use Rattle.list_facts.proofs.Places.{same_some, not_both}
use Rattle.latch_law.specs.declared.knows.Terms.{Terms}
use Rattle.latch_law.specs.Views.{holding}
use Rattle.latch_space.specs.Passes.{view}
use Rattle.index_page.specs.Page.{PageRows}
use Rattle.tree_law.specs.Pages.{Page, is_own, IsOrderly, low_place, high_place}
use Rattle.index_law.specs.Shape.{Shape}
use Rattle.forest_law.specs.declared.objects.Frame.{Frame}
use Rattle.forest_law.specs.declared.objects.Object.TheVariants as object
use Rattle.forest_law.specs.Law.{IsLawful}
use Rattle.forest_law.specs.Numbers.{frame_id}
use Rattle.forest_law.specs.State.{ForestState, pages_of, page_within, fields_for}
use Rattle.forest_law.proofs.FramePageLemmas.{frames_tell_pages}
use Rattle.forest_world.specs.Held.{TreePass, shape_of_pass}
use Rattle.tree_facts.specs.TreeFrames.{IsTreeFrame, low_of, high_of}
use Rattle.tree_facts.proofs.NeighbourLemmas.{next_pages_fit, previous_pages_fit}
use Rattle.call_law.specs.Hands.{KnowsFrame, HoldsNoFrameBut}
use Rattle.call_law.specs.Spoken.{View}
use Rattle.buffer_pool.specs.Forests.{FitsTrees, IsFittedTree}
use Rattle.buffer_pool.specs.Pages.{HasTreePage, HasNumber, IsLive, HoldsOtherPages, PagesIn, RefusesPage}
use Rattle.buffer_pool.proofs.AddedLemmas.{frame_still}
use Rattle.tree_descent.specs.Ways.{HoldsPage}
use Rattle.tree_descent.proofs.InnerLemmas.{one_known}
use Rattle.tree_descent.proofs.PageLemmas.{same_page, known_frame, known_page_is, known_tree_frame, known_among}
use Rattle.tree_neighbours.specs.declared.side.Side.{Side}
use Rattle.tree_neighbours.specs.declared.side.Side.TheVariants.{Left, Right}
use Rattle.tree_neighbours.specs.Neighbours.{IsLeafBeside, TakesBeside, IsBusyOn}
use Rattle.tree_neighbours.specs.Sides.{Meets, page_on}

-- on this side of the frame's page, where its bounds end, those of the page begin
MeetsPage : Side → Frame → Page → Type 0
MeetsPage Left f page = high_place page.high ≡ low_of f
MeetsPage Right f page = low_place page.low ≡ high_of f

-- in this state the page m is the leaf beside the one of the frame f
record HasLeafBeside (w : ForestState) (side : Side) (i : ℕ) (f : Frame) (n m : ℕ) : Type 0 where
  pub page : Page
  pub at : pages_of w.shape w.objects m ≡ Some page
  pub tree : is_own m page.prev ≡ false
  pub index : page.index ≡ i
  pub level : page.level ≡ 0
  pub other : m ≢ n
  pub meets : MeetsPage side f page

module _ (w : ForestState) (law : IsLawful w) where
  module _ (b i : ℕ) (f : Frame) (is : HasTreePage f i 0) (at : IsTreeFrame w b f is.page)
      (m : ℕ) where
    -- a leaf of the trees leads to the leaf beside it
    has_leaf_beside : (side : Side) → page_on side is.page ≡ Some m
        → HasLeafBeside w side i f is.page.head.number m
    unfolding MeetsPage
    has_leaf_beside Left leads = let has = previous_pages_fit w law b f is.page at m leads in
        record {
          page = has.former;
          at = has.at;
          tree = has.tree;
          index = has.index ∙ is.index;
          level = has.level ∙ is.at_level;
          other = has.other;
          meets = has.meets;
        }
    has_leaf_beside Right leads = let has = next_pages_fit w law b f is.page at m leads in
        record {
          page = has.after;
          at = has.at;
          tree = has.tree;
          index = has.index ∙ is.index;
          level = has.level ∙ is.at_level;
          other = has.other;
          meets = has.meets;
        }

  meets_frame : (side : Side) (f g : Frame) (rows : PageRows)
      → MeetsPage side f (page_within rows g.low g.high) → Meets side f g
  unfolding MeetsPage
  meets_frame Left f g rows meets = meets
  meets_frame Right f g rows meets = meets

  -- and the frame that has its page has the leaf
  leaf_in : (v : View) → FitsTrees w v → (side : Side) (b i : ℕ) (f : Frame) (n m : ℕ)
      → HasLeafBeside w side i f n m → (c : ℕ) (g : Frame) → c ≢ b → KnowsFrame v c g
      → (has : HasNumber g m)
      → (beside : IsLeafBeside v.terms.shape side b i f c g)
      × (beside.is.page.head.number ≡ m)
  leaf_in v fits side b i f n m leaf c g other knows has =
      let rows = has.page in
      let same : page_within rows g.low g.high ≡ leaf.page =
      same_some (page_within rows g.low g.high) leaf.page
      (sym (known_page_is w law v fits c g rows knows has.paged)
      ∙ (ap (pages_of w.shape w.objects) has.number ∙ leaf.at)) in (
        record {
          is = record {
            page = rows;
            paged = has.paged;
            tree = ap (λ k. is_own k rows.head.prev) has.number
                ∙ (ap (λ (z : Page). is_own m z.prev) same ∙ leaf.tree);
            index = ap (λ (z : Page). z.index) same ∙ leaf.index;
            at_level = ap (λ (z : Page). z.level) same ∙ leaf.level;
          };
          order = (let tells =
              frames_tell_pages w law c g rows (known_frame w law v fits c g knows) has.paged in
              subst (λ (s : Shape). IsOrderly (fields_for s) (page_within rows g.low g.high))
              fits.shape tells.order);
          other = other;
          meets = meets_frame side f g rows (subst (MeetsPage side f) (sym same) leaf.meets);
        },
        has.number,
      )

module _ (v : View) (b i : ℕ) (side : Side) (held : HoldsPage v b i 0) (m : ℕ)
    (leads : page_on side held.is.page ≡ Some m) where
  -- in a state in which all that is known is so, the held leaf leads to the one beside it
  beside_in : (w : ForestState) → IsLawful w → FitsTrees w v
      → HasLeafBeside w side i held.frame held.is.page.head.number m
  beside_in w law fits = has_leaf_beside w law b i held.frame held.is
      (known_tree_frame w law v fits b i 0 held.frame held.knows held.is) m side leads

  -- so there is a page of its number
  pub beside_live : IsLive v m
  beside_live w law fits = (let leaf = beside_in w law fits in (leaf.page, leaf.at))

  -- which no frame that is held has
  pub beside_others : IsFittedTree v → HoldsNoFrameBut v (b ∷ []) → HoldsOtherPages v m
  beside_others fitted frames c f page knows paged number = elim (cases_eq c b) [
    | inl e ↦ (beside_in fitted.whole fitted.is_lawful fitted.fits).other
        (sym (ap (λ (z : PageRows). z.head.number)
        (same_page f held.frame page held.is.page
        (one_known v b held.frame f held.knows (subst (λ k. KnowsFrame v k f) e knows)) paged
        held.is.paged) ∙ number))
    | inr differs ↦ known_among v fitted (b ∷ []) frames c f knows (differs, tt)
  ]

module _ (p : TreePass) (b i : ℕ) (side : Side) (held : HoldsPage (view p) b i 0) (m : ℕ)
    (leads : page_on side held.is.page ≡ Some m) (q : TreePass) where
  module _ (c : ℕ) (took : PagesIn p m c q) (fitted : IsFittedTree (view q)) where
    -- what was lacked isn't the leaf
    not_held : c ≢ b
    not_held e = not_both (view p).held (frame_id (shape_of_pass p) c)
        (holding held.knows.0 (object.Frame held.frame)) took.lacked
        (ap (λ k. get_elem? (view p).held (frame_id (shape_of_pass p) k)) e ∙ held.knows.1)

    still : KnowsFrame (view q) b held.frame
    still = let does = took.silently.does in
        frame_still (view p) (view q) (frame_id (shape_of_pass p) c ∷ []) does.adds.numbers
        does.rest b (
          λ e. not_both (view p).held (frame_id (shape_of_pass p) c)
              (holding held.knows.0 (object.Frame held.frame)) took.lacked
              (ap (get_elem? (view p).held) (sym e) ∙ held.knows.1),
          tt,
        ) held.frame held.knows

    -- the page that is held now is the leaf beside
    found_beside : (beside : IsLeafBeside (view q).terms.shape side b i held.frame c took.frame)
        × (beside.is.page.head.number ≡ m)
    found_beside =
        let w = fitted.whole in
        let law = fitted.is_lawful in
        let leaf =
        has_leaf_beside w law b i held.frame held.is
        (known_tree_frame w law (view q) fitted.fits b i 0 held.frame still held.is) m side leads in
        leaf_in w law (view q) fitted.fits side b i held.frame held.is.page.head.number m leaf c
        took.frame not_held took.knows took.has

    pub takes_beside : TakesBeside p b i side c q
    takes_beside = let found = found_beside in record {
      silently = took.silently;
      none = took.none;
      lacked = took.lacked;
      holds = held;
      frame = took.frame;
      knows = took.knows;
      held_as_taken = took.held_as_taken;
      beside = record {
        is = found.0.is;
        order = subst
            (λ (t : Terms Shape). IsOrderly (fields_for t.shape)
            (page_within found.0.is.page took.frame.low took.frame.high))
            took.silently.does.adds.numbers.terms found.0.order;
        other = found.0.other;
        meets = found.0.meets;
      };
      leads = leads ∙ ap Some (sym found.1);
      count = took.count;
    }

  -- another pass holds its frame
  pub is_busy : side ≡ Left → RefusesPage p m q → IsBusyOn p b i side q
  is_busy left refused =
      record { left = left; holds = held; page = m; leads = leads; refused = refused }
