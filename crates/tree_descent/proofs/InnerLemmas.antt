-- An inner page in hand, and its child beside it.
use Rattle.std.proofs.Common.{◌≡◌, ℕ, suc, Some, [], ◌∷◌, inl, inr, ap, subst, sym, ◌∙◌}
use Rattle.std.proofs.lemmas.Bool.{cases_eq}
use mathlib.Core.Option.{some-injective}
use lib.ListN.{get_elem?}
use Rattle.list_facts.proofs.Places.{same_some, not_both}
use Rattle.key_tuple.specs.Order.{FieldList}
use Rattle.key_tuple.specs.declared.mode.Mode.{Mode}
use Rattle.key_tuple.proofs.PositionLemmas.{positions_part}
use Rattle.latch_law.specs.declared.knows.Holding.{Holding}
use Rattle.latch_law.specs.declared.knows.Terms.{Terms}
use Rattle.latch_law.specs.Views.{holding}
use Rattle.latch_space.specs.Passes.{view}
use Rattle.index_page.specs.Page.{PageRows}
use Rattle.index_law.specs.Shape.{Shape}
use Rattle.forest_law.specs.declared.objects.Frame.{Frame}
use Rattle.forest_law.specs.declared.objects.Object.{Object}
use Rattle.forest_law.specs.declared.objects.Object.TheVariants as object
use Rattle.forest_law.specs.FramePages.{HasCutPage}
use Rattle.forest_law.specs.Law.{IsLawful}
use Rattle.forest_law.specs.Numbers.{frame_id}
use Rattle.forest_law.specs.State.{ForestState, fields_for}
use Rattle.forest_law.proofs.ObjectLemmas.{same_frame}
use Rattle.forest_world.specs.Held.{TreePass, shape_of_pass}
use Rattle.call_law.specs.Hands.{KnowsFrame, HoldsNoFrameBut}
use Rattle.call_law.specs.Spoken.{View}
use Rattle.buffer_pool.specs.Forests.{FitsTrees, IsFittedTree}
use Rattle.buffer_pool.specs.Pages.{IsLive, HoldsOtherPages, PagesIn}
use Rattle.buffer_pool.proofs.AddedLemmas.{frame_still}
use Rattle.tree_descent.specs.Descents.{HoldsInner, TakesChild}
use Rattle.tree_descent.specs.Leaves.{cut_in, IsPageFor}
use Rattle.tree_descent.specs.Paths.{PicksChild}
use Rattle.tree_descent.specs.Ways.{HoldsPage}
use Rattle.tree_descent.proofs.PageLemmas.{picked_points, same_page, number_is, cut_is_for, known_tree_frame, known_among, inner_has_rows, child_has_cut, child_is_other}

-- one frame is known of a block
pub one_known : (v : View) (b : ℕ) (f g : Frame) → KnowsFrame v b f → KnowsFrame v b g → f ≡ g
one_known v b f g x y = let same = same_some (holding x.0 (object.Frame f))
    (holding y.0 (object.Frame g)) (some-injective (Some (holding x.0 (object.Frame f)))
    (Some (holding y.0 (object.Frame g))) (sym x.1 ∙ y.1)) in
    same_frame f g (ap (λ (h : Holding Object). h.known) same)

-- an inner page has a row
pub above_has_rows : (v : View) → IsFittedTree v → (b i level : ℕ)
    → (held : HoldsPage v b i (suc level)) → held.is.page.rows ≡ [] → ⊥
above_has_rows v fitted b i level held = inner_has_rows fitted.whole fitted.is_lawful b i level
    held.frame held.is
    (known_tree_frame fitted.whole fitted.is_lawful v fitted.fits b i (suc level) held.frame
    held.knows held.is)

-- a page that has the position is one in order
abbrev pub inner_page : (v : View) (b i : ℕ) (mode : Mode) (tuple : FieldList)
    → (held : HoldsInner v b i mode tuple) → HoldsPage v b i (suc held.level)
inner_page v b i mode tuple held = record {
  frame = held.frame;
  knows = held.knows;
  is = held.page.is;
  order = held.page.order;
}

module _ (v : View) (b i : ℕ) (mode : Mode) (tuple : FieldList)
    (held : HoldsInner v b i mode tuple) (n : ℕ)
    (picks : PicksChild (cut_in v.terms.shape i mode tuple) held.page.is.page.rows n) where
  module _ (w : ForestState) (law : IsLawful w) (fits : FitsTrees w v) where
    -- in a state in which all that is known is so, the picked child has the position
    pub held_child : HasCutPage w (cut_in v.terms.shape i mode tuple) i held.level n
    held_child = child_has_cut w law b i held.level held.frame held.page.is
        (known_tree_frame w law v fits b i (suc held.level) held.frame held.knows held.page.is)
        (cut_in v.terms.shape i mode tuple)
        (positions_part.cut (fields_for v.terms.shape i) mode tuple) held.page.within n picks

    -- and is another page
    pub held_child_is_other : held.page.is.page.head.number ≡ n → ⊥
    held_child_is_other = child_is_other w law b i held.level held.frame held.page.is
        (known_tree_frame w law v fits b i (suc held.level) held.frame held.knows held.page.is)
        (cut_in v.terms.shape i mode tuple)
        (positions_part.cut (fields_for v.terms.shape i) mode tuple) held.page.within n picks

  -- so there is a page of the child's number
  pub child_live : IsLive v n
  child_live w law fits = (let has = held_child w law fits in (has.page, has.at))

  -- which no frame that is held has
  pub child_others : IsFittedTree v → HoldsNoFrameBut v (b ∷ []) → HoldsOtherPages v n
  child_others fitted frames c f page knows paged number = elim (cases_eq c b) [
    | inl e ↦ held_child_is_other fitted.whole fitted.is_lawful fitted.fits
        (ap (λ (z : PageRows). z.head.number)
        (same_page f held.frame page held.page.is.page
        (one_known v b held.frame f held.knows (subst (λ m. KnowsFrame v m f) e knows)) paged
        held.page.is.paged) ∙ number)
    | inr differs ↦ known_among v fitted (b ∷ []) frames c f knows (differs, tt)
  ]

module _ (p : TreePass) (b i : ℕ) (mode : Mode) (tuple : FieldList)
    (held : HoldsInner (view p) b i mode tuple) (n : ℕ)
    (picks : PicksChild (cut_in (shape_of_pass p) i mode tuple) held.page.is.page.rows n) (c : ℕ)
    (q : TreePass) (took : PagesIn p n c q) where
  -- the parent is known still
  parent_still : KnowsFrame (view q) b held.frame
  parent_still = let does = took.silently.does in
      frame_still (view p) (view q) (frame_id (shape_of_pass p) c ∷ []) does.adds.numbers does.rest
      b (apart, tt) held.frame held.knows
    where
      apart : frame_id (shape_of_pass p) b ≡ frame_id (shape_of_pass p) c → ⊥
      apart e = not_both (view p).held (frame_id (shape_of_pass p) c)
          (holding held.knows.0 (object.Frame held.frame)) took.lacked
          (ap (get_elem? (view p).held) (sym e) ∙ held.knows.1)

  module _ (fitted : IsFittedTree (view q)) where
    -- and the child is the page of the position
    child_page : IsPageFor (shape_of_pass p) took.frame i held.level
        (cut_in (shape_of_pass p) i mode tuple)
    child_page =
        let w = fitted.whole in
        let law = fitted.is_lawful in
        let cut = cut_in (shape_of_pass p) i mode tuple in
        let has =
        child_has_cut w law b i held.level held.frame held.page.is
        (known_tree_frame w law (view q) fitted.fits b i (suc held.level) held.frame parent_still
        held.page.is) cut (positions_part.cut (fields_for (shape_of_pass p) i) mode tuple)
        held.page.within n picks in
        subst (λ (t : Terms Shape). IsPageFor t.shape took.frame i held.level cut)
        took.silently.does.adds.numbers.terms
        (cut_is_for w law (view q) fitted.fits cut i held.level n has c took.frame took.knows
        took.has)

    pub takes_child : TakesChild p b i mode tuple c q
    takes_child =
        let cut = cut_in (shape_of_pass p) i mode tuple in
        let rows = held.page.is.page.rows in
        let same =
        number_is took.frame n i held.level took.has child_page.is in
        let there = subst (PicksChild cut rows) (sym same) picks in
        record {
          silently = took.silently;
          none = took.none;
          lacked = took.lacked;
          parent = held;
          frame = took.frame;
          knows = took.knows;
          held_as_taken = took.held_as_taken;
          page = child_page;
          picks = there;
          points = picked_points cut rows child_page.is.page.head.number there;
          count = took.count;
        }
