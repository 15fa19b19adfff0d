-- A child in hand under a page with room.
use Rattle.std.proofs.Common.{◌≡◌, ℕ, suc, ◌+◌, ◌-◌, ◌<◌, ◌≤◌, Bool, false, cond, [], ◌∷◌, ne_eqb, sym, ap, subst, ◌∙◌, arith}
use Rattle.list_facts.proofs.Places.{same_some}
use Rattle.key_tuple.specs.declared.mode.Mode.TheVariants as mode
use Rattle.key_tuple.specs.Order.{FieldList}
use Rattle.latch_space.specs.Passes.{view}
use Rattle.index_page.specs.declared.TheConstants.{PAGE_ROOM}
use Rattle.index_page.specs.Loads.{load_of}
use Rattle.index_page.specs.Page.{PageRows}
use Rattle.index_law.specs.Shape.{Shape}
use Rattle.forest_law.specs.declared.objects.Frame.{Frame}
use Rattle.forest_law.specs.Numbers.{frame_id}
use Rattle.forest_world.specs.Held.{TreePass, shape_of_pass}
use Rattle.call_law.specs.Spoken.{View}
use Rattle.buffer_pool.specs.Pages.{HasTreePage}
use Rattle.buffer_pool.proofs.AddedLemmas.{frame_no_tree, frame_still, tree_still}
use Rattle.tree_descent.specs.Descents.{HoldsInner, TakesChild}
use Rattle.tree_restructure.specs.Charges.{most_for_pointer}
use Rattle.tree_growth.specs.declared.looking.PageInHand.{PageInHand}
use Rattle.tree_growth.specs.Pages.{needed, IsPageInHand, HoldsChild}
use Rattle.tree_growth.specs.Ways.{IsGoingDown, GoesOn}
use Rattle.tree_growth.proofs.AddLemmas.{same_shape, goes_silently}
use Rattle.tree_growth.proofs.HandLemmas.{frames_apart, way_more}
use Rattle.tree_growth.proofs.PageLemmas.{HasKey}
use Rattle.tree_growth.proofs.KnownLemmas.{level_one, lacked_apart}
use Rattle.tree_descent.proofs.InnerLemmas.{one_known}

-- a page above the leaves is in hand
module _ (v : View) (i : ℕ) (key : FieldList) (need : ℕ) (at : PageInHand)
    (is : IsPageInHand v i key need at) (above : 0 < at.level) where
  pub holds_inner : HoldsInner v at.block i mode.Ge key
  holds_inner = record {
    level = at.level - 1;
    frame = is.frame;
    knows = is.knows;
    page = subst (λ l. HasKey v.terms.shape i l key is.frame)
        (let e : at.level ≡ suc (at.level - 1) = omega (arith, above) in e) is.page;
  }

  module _ (inner : HoldsInner v at.block i mode.Ge key) where
    same_frame : is.frame ≡ inner.frame
    same_frame = one_known v at.block is.frame inner.frame is.knows inner.knows

    -- its level
    pub level_above : suc inner.level ≡ at.level
    level_above = level_one i i (suc inner.level) at.level inner.frame inner.page.is
        (subst (λ f. HasTreePage f i at.level) same_frame is.page.is)

    -- and its room, where it isn't full
    pub room_above : at.is_full ≡ false
        → load_of inner.page.is.page.rows + most_for_pointer ≤ PAGE_ROOM
    room_above not_full =
        let same : is.page.is.page ≡ inner.page.is.page =
        same_some is.page.is.page inner.page.is.page
        (sym is.page.is.paged
        ∙ (ap (λ (f : Frame). f.page) same_frame ∙ inner.page.is.paged)) in
        let pointer : needed at.level need ≡ most_for_pointer =
        ap (λ (b : Bool). cond b need most_for_pointer)
        (ne_eqb at.level 0 (λ e. absurd (omega (arith, above, e)))) in
        subst (λ (r : PageRows). load_of r.rows + most_for_pointer ≤ PAGE_ROOM) same
        (subst (λ n. load_of is.page.is.page.rows + n ≤ PAGE_ROOM) pointer (is.tells.room not_full))

module _ (p q : TreePass) (i : ℕ) (key : FieldList) (need : ℕ) (at : PageInHand) (child : ℕ)
    (way : IsGoingDown p i key (at.block ∷ [])) (is : IsPageInHand (view p) i key need at)
    (above : 0 < at.level) (takes : TakesChild p at.block i mode.Ge key child q) where
  pub goes_child : GoesOn p q
  goes_child = goes_silently p q (frame_id (shape_of_pass p) child ∷ []) takes.silently

  pub way_child : IsGoingDown q i key (at.block ∷ child ∷ [])
  way_child =
      let does = takes.silently.does in let s = shape_of_pass p in
      let had = way.count in let more = takes.count in
      way_more p q i key (at.block ∷ []) (at.block ∷ child ∷ []) way (frame_id s child ∷ [])
      takes.silently.added does.adds does.rest does.known
      (λ k not each. ((each.1.0, tt), (each.0, tt))) way.tree
      (tree_still (view p) (view q) (frame_id s child ∷ []) does.rest i
      ((λ e. frame_no_tree s child i way.index (sym e)), tt) way.tree way.knows)
      (omega (arith, had, more))

  -- the child is a level lower
  pub level_below : suc takes.parent.level ≡ at.level
  level_below = level_above (view p) i key need at is above takes.parent

  module _ (not_full : at.is_full ≡ false) where
    pub holds_child : HoldsChild (view q) at.block child i key
    holds_child = let does = takes.silently.does in let s = shape_of_pass p in record {
      level = takes.parent.level;
      up = takes.parent.frame;
      low = takes.frame;
      knows_up = frame_still (view p) (view q) (frame_id s child ∷ []) does.adds.numbers does.rest
          at.block (
            frames_apart s at.block child
                (lacked_apart p at.block child takes.parent.frame takes.lacked takes.parent.knows),
            tt,
          )
          takes.parent.frame takes.parent.knows;
      knows_low = takes.knows;
      above = takes.parent.page.is;
      below = subst (λ (t : Shape). HasKey t i takes.parent.level key takes.frame)
          (sym (same_shape p q takes.silently.added does.adds)) takes.page;
      points = takes.points;
      room = room_above (view p) i key need at is above takes.parent not_full;
    }

    pub its_child_level : suc holds_child.level ≡ at.level
    unfolding holds_child
    its_child_level = level_below
