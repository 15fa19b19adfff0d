-- The end of the way down, where the leaf is given back.
use Rattle.std.proofs.Common.{◌≡◌, ℕ, ◌+◌, ◌≤◌, Bool, false, cond, [], ◌∷◌, inl, eq-eqb, sym, ap, subst, ◌∙◌, refl}
use Rattle.key_tuple.specs.declared.mode.Mode.TheVariants as mode
use Rattle.key_tuple.specs.Order.{FieldList}
use Rattle.latch_law.specs.Whole.{reference}
use Rattle.latch_space.specs.Passes.{view}
use Rattle.index_page.specs.declared.TheConstants.{PAGE_ROOM}
use Rattle.index_page.specs.Loads.{load_of}
use Rattle.tree_law.specs.Pages.{IsOrderly}
use Rattle.index_law.specs.Shape.{Shape}
use Rattle.forest_law.specs.declared.objects.Object.TheVariants as object
use Rattle.forest_law.specs.Numbers.{frame_id}
use Rattle.forest_law.specs.State.{page_within, fields_for}
use Rattle.forest_world.specs.Held.{TreePass, shape_of_pass}
use Rattle.buffer_pool.specs.Frames.{GivesFrame}
use Rattle.tree_descent.specs.Leaves.{HasCutWithin, cut_in}
use Rattle.tree_restructure.specs.Charges.{most_for_pointer}
use Rattle.tree_growth.specs.declared.looking.PageInHand.{PageInHand}
use Rattle.tree_growth.specs.Growing.{HadRoom}
use Rattle.tree_growth.specs.Ways.{GoesOn, ArrivesAt, WalksDown}
use Rattle.tree_growth.proofs.AddLemmas.{same_shape, goes_both}
use Rattle.tree_growth.proofs.HandLemmas.{way_less, goes_gave}
use Rattle.tree_law.proofs.ListLemmas.{In-append_right}
use Rattle.tree_descent.proofs.InnerLemmas.{one_known}

module _ (p q r : TreePass) (i : ℕ) (key : FieldList) (need : ℕ) (at : PageInHand)
    (reaches : ArrivesAt p i key need at q) (gave : GivesFrame q at.block r) where
  goes_end : GoesOn p r
  goes_end = goes_both p q r reaches.goes (goes_gave q r at.block reaches.way.known gave)

  -- the space has its shape
  shape_is : shape_of_pass q ≡ shape_of_pass p
  shape_is = same_shape p q reaches.goes.added reaches.goes.adds

  -- the frame went out as it was looked at
  same_leaf : reaches.is.frame ≡ gave.frame
  same_leaf = one_known (view q) at.block reaches.is.frame gave.frame reaches.is.knows
      (gave.taken, gave.held)

  had_room : at.level ≡ 0 → at.is_full ≡ false
      → HadRoom (shape_of_pass p) i key need goes_end.added
  unfolding goes_end goes_both goes_gave
  had_room bottom not_full = let is = reaches.is in record {
    block = at.block;
    taken = gave.taken;
    leaf = is.frame;
    among = In-append_right _ reaches.goes.added.references _
        (inl (λ k. reference (frame_id (sym shape_is k) at.block) gave.taken
        (object.Frame (same_leaf k))));
    page = record {
      is = search (is.page.is.at_level ∙ bottom);
      order = subst
          (λ (s : Shape). IsOrderly (fields_for s)
          (page_within is.page.is.page is.frame.low is.frame.high)) shape_is is.page.order;
      within = subst (λ (s : Shape). HasCutWithin is.frame (cut_in s i mode.Ge key)) shape_is
          is.page.within;
    };
    room = subst (λ n. load_of is.page.is.page.rows + n ≤ PAGE_ROOM)
        (ap (λ (b : Bool). cond b need most_for_pointer) (eq-eqb at.level 0 bottom))
        (is.tells.room not_full);
  }

  pub walks_down : at.level ≡ 0 → at.is_full ≡ false → WalksDown p i key need r
  walks_down bottom not_full = record {
    goes = goes_end;
    way = way_less q r i key (at.block ∷ []) [] reaches.way at.block gave
        (λ k apart each. (apart, tt)) refl;
    room = had_room bottom not_full;
  }
