-- A root that was raised, and the page under it.
use Rattle.std.proofs.Common.{◌≡◌, ℕ, suc, ◌+◌, ◌≤◌, [], ◌∷◌, length, sym, ap, subst, ◌∙◌, arith}
use Rattle.list_facts.proofs.Places.{same_some}
use Rattle.key_tuple.specs.declared.mode.Mode.TheVariants as mode
use Rattle.key_tuple.specs.Order.{FieldList}
use Rattle.latch_space.specs.Passes.{view}
use Rattle.index_page.specs.declared.head.PageHead.{PageHead}
use Rattle.index_page.specs.declared.TheConstants.{PAGE_ROOM}
use Rattle.index_page.specs.Loads.{load_of}
use Rattle.index_page.specs.Page.{PageRows}
use Rattle.index_page.specs.Rows.{Child}
use Rattle.tree_law.specs.Pages.{low_place, high_place, is_own, IsOrderly}
use Rattle.index_law.specs.Shape.{Shape}
use Rattle.forest_law.specs.declared.objects.Frame.{Frame}
use Rattle.forest_law.specs.Numbers.{tree_id, frame_id}
use Rattle.forest_law.specs.State.{bound, page_within, fields_for}
use Rattle.forest_world.specs.Held.{TreePass, shape_of_pass}
use Rattle.buffer_pool.specs.Forests.{IsFittedTree}
use Rattle.buffer_pool.specs.Pages.{HasTreePage, PointsAt}
use Rattle.tree_descent.specs.Leaves.{cut_in}
use Rattle.tree_smo.specs.Raising.{RaisesRoot}
use Rattle.tree_restructure.specs.Charges.{most_for_pointer}
use Rattle.tree_growth.specs.declared.looking.PageInHand.{PageInHand}
use Rattle.tree_growth.specs.Pages.{HoldsChild}
use Rattle.tree_growth.specs.Ways.{IsGoingDown, GoesOn, ArrivesWithRoom, GrowsChild}
use Rattle.tree_growth.proofs.AddLemmas.{goes_silently, reaches_after}
use Rattle.tree_growth.proofs.HandLemmas.{way_more}
use Rattle.tree_growth.proofs.PageLemmas.{HasKey}
use Rattle.tree_growth.proofs.RoomLemmas.{one_row}
use Rattle.tree_growth.proofs.RootLemmas.{key_cuts}
use Rattle.tree_growth.proofs.KnownLemmas.{known_tells}

module _ (p q : TreePass) (i : ℕ) (key : FieldList) (b under : ℕ)
    (way : IsGoingDown p i key (b ∷ [])) (raises : RaisesRoot p i b under q) where
  -- the root and the page under it are in hand
  pub goes_raised : GoesOn p q
  goes_raised = goes_silently p q
      (frame_id (shape_of_pass p) b ∷ frame_id (shape_of_pass p) under ∷ tree_id i ∷ [])
      raises.silently

  pub way_raised : IsGoingDown q i key (b ∷ under ∷ [])
  way_raised = let does = raises.silently.does in let s = shape_of_pass p in
      let had = way.count in let more = raises.count in
      way_more p q i key (b ∷ []) (b ∷ under ∷ []) way
      (frame_id s b ∷ frame_id s under ∷ tree_id i ∷ []) raises.silently.added does.adds does.rest
      does.known (λ k not each. ((each.0, (each.1.0, (not, tt))), (each.0, tt))) raises.tree
      raises.knows_tree (omega (arith, had, more))

  -- the page that rose
  same_page : raises.raises.page ≡ raises.was.page.page
  same_page =
      same_some raises.raises.page raises.was.page.page (sym raises.raises.had ∙ raises.was.page.paged)

  top_page : HasTreePage raises.root i (suc raises.was.level)
  top_page = let head = raises.raises.raises.head in record {
    page = raises.raises.top;
    paged = raises.raises.has;
    tree = ap (λ (h : PageHead). is_own h.number h.prev) head;
    index = ap (λ (h : PageHead). h.index) head
        ∙ (ap (λ (r : PageRows). r.head.index) same_page ∙ raises.was.page.index);
    at_level = ap (λ (h : PageHead). h.level) head
        ∙ (ap (λ (r : PageRows). suc r.head.level) same_page ∙ ap suc raises.was.page.at_level);
  }

  under_page : HasTreePage raises.below i raises.was.level
  under_page = let head = raises.raises.raises.new_head in let blank = raises.raises.blank in
      record {
        page = raises.raises.new;
        paged = raises.raises.has_new;
        tree = ap (λ (h : PageHead). is_own h.number h.prev) head;
        index = ap (λ (h : PageHead). h.index) head
            ∙ (blank.index ∙ (ap (λ (r : PageRows). r.head.index) same_page
            ∙ raises.was.page.index));
        at_level = ap (λ (h : PageHead). h.level) head
            ∙ (blank.level ∙ (ap (λ (r : PageRows). r.head.level) same_page
            ∙ raises.was.page.at_level));
      }

  top_points : PointsAt raises.raises.top.rows raises.raises.new.head.number
  top_points = let one = raises.raises.raises.one in record {
    fore = [];
    this = one.pointer;
    aft = [];
    was = one.is;
    child = one.child_is
        ∙ ap (λ (h : PageHead). Child h.number) (sym raises.raises.raises.new_head);
  }

  top_room : load_of raises.raises.top.rows + most_for_pointer ≤ PAGE_ROOM
  top_room = let one = raises.raises.raises.one in
      let small = one_row raises.raises.top raises.raises.raises.order
      (let e = ap length one.is in omega (arith, e)) in omega (arith, small)

  module _ (fitted : IsFittedTree (view q)) where
    under_has : HasKey (shape_of_pass q) i raises.was.level key raises.below
    unfolding under_page
    under_has = let cuts = key_cuts (shape_of_pass q) i key in record {
      is = under_page;
      order = subst
          (λ (s : Shape). IsOrderly (fields_for s)
          (page_within raises.raises.new raises.below.low raises.below.high)) fitted.fits.shape
          (known_tells (view q) fitted under raises.below raises.raises.new raises.knows_below
          raises.raises.has_new).order;
      within = record {
        low = ap (λ (f : Frame). cut_in (shape_of_pass q) i mode.Ge key (low_place (bound f.low)))
            raises.raises.under ∙ cuts.begins;
        high = ap (λ (f : Frame). cut_in (shape_of_pass q) i mode.Ge key (high_place (bound f.high)))
            raises.raises.under ∙ cuts.ends;
      };
    }

    pub under_held : HoldsChild (view q) b under i key
    unfolding top_page under_page under_has
    under_held = record {
      level = raises.was.level;
      up = raises.root;
      low = raises.below;
      knows_up = raises.knows_root;
      knows_low = raises.knows_below;
      above = top_page;
      below = under_has;
      points = top_points;
      room = top_room;
    }

-- what has the key of the page under the root is in hand
pub grows_raised : (p q r : TreePass) (i : ℕ) (key : FieldList) (need b under : ℕ)
    → (way : IsGoingDown p i key (b ∷ [])) (raises : RaisesRoot p i b under q) (at : PageInHand)
    → GrowsChild q b under i key need at r → ArrivesWithRoom p i key need at r
grows_raised p q r i key need b under way raises at grows = record {
  reaches = reaches_after p q r i key need at (goes_raised p q i key b under way raises)
      grows.reaches;
  fits = grows.fits;
}
