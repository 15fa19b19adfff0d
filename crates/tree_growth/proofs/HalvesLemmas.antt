-- Two halves of which the one with the key is kept.
use Rattle.std.proofs.Common.{◌≡◌, ◌≢◌, ◌≤◌, ℕ, true, false, [], ◌∷◌, Some, sym, ap, subst, ◌∙◌, refl}
use Rattle.key_tuple.specs.KeyPlace.{At, above}
use Rattle.key_tuple.specs.Order.{FieldList}
use Rattle.latch_space.specs.Passes.{view}
use Rattle.index_page.specs.declared.TheConstants.{MAX_CHARGE}
use Rattle.index_page.specs.Page.{PageRows}
use Rattle.tree_law.specs.Pages.{HasFields}
use Rattle.forest_law.specs.declared.objects.Frame.{Frame}
use Rattle.forest_law.specs.State.{fields_for}
use Rattle.forest_world.specs.Held.{TreePass, shape_of_pass, HasFrame}
use Rattle.call_law.specs.Hands.{KnowsFrame}
use Rattle.buffer_pool.specs.Frames.{GivesFrame}
use Rattle.buffer_pool.specs.Hands.{MayGiveBack}
use Rattle.buffer_pool.proofs.CallLemmas.{gave_frame, frame_has}
use Rattle.tree_descent.proofs.PageLemmas.{may_give_back}
use Rattle.tree_growth.specs.declared.looking.PageInHand.{PageInHand}
use Rattle.tree_growth.specs.Pages.{TellsRoom, HoldsLow, HoldsPagedFrame, HoldsBothHalves}
use Rattle.tree_growth.specs.Ways.{IsGoingDown, ArrivesAt, KeepsHalf}
use Rattle.tree_growth.proofs.HandLemmas.{still_gave}
use Rattle.tree_growth.proofs.RoomLemmas.{is_roomy}
use Rattle.tree_growth.proofs.PageLemmas.{HasKey, its_level, reaches_kept, lower_has, upper_has}

-- what a look at the block's frame tells
abbrev pub Looks : TreePass → ℕ → ℕ → PageInHand → Type 0
Looks p b need at = (f : Frame) (page : PageRows) → HasFrame p b f f → f.page ≡ Some page
    → TellsRoom b page need at

module _ (p q : TreePass) (i : ℕ) (key : FieldList) (need left right : ℕ)
    (way : IsGoingDown p i key (left ∷ right ∷ [])) where
  -- of two pages the left one is kept, or the right one
  pub keeps_left : left ≢ right → GivesFrame p right q → (level : ℕ) (f : Frame)
      → KnowsFrame (view p) left f → (page : HasKey (shape_of_pass p) i level key f)
      → (at : PageInHand) → TellsRoom left page.is.page need at
      → ArrivesAt p i key need at q
  keeps_left ne gave level f knows page at tells =
      reaches_kept p q i key need (left ∷ right ∷ []) way right left ne gave
      (λ j apart each. (each.0, (apart, tt))) refl level f knows page at tells

  pub keeps_right : right ≢ left → GivesFrame p left q → (level : ℕ) (f : Frame)
      → KnowsFrame (view p) right f → (page : HasKey (shape_of_pass p) i level key f)
      → (at : PageInHand) → TellsRoom right page.is.page need at
      → ArrivesAt p i key need at q
  keeps_right ne gave level f knows page at tells =
      reaches_kept p q i key need (left ∷ right ∷ []) way left right ne gave
      (λ j apart each. (apart, (each.0, tt))) refl level f knows page at tells

-- where the right half begins
abbrev pub low_of_right : (p : TreePass) (i : ℕ) (key : FieldList) (left right : ℕ)
    → IsGoingDown p i key (left ∷ right ∷ []) → HoldsBothHalves (view p) left right i key
    → HoldsLow p right key
low_of_right p i key left right way halves = record {
  frame = halves.upper;
  has = frame_has p way.known right halves.upper halves.knows_upper;
  at = halves.at;
  begins = halves.from;
  fields = way.fields
      ∙ (ap (fields_for (shape_of_pass p)) (sym halves.is_upper.index)
      ∙ (sym halves.order_upper.fields
      ∙ sym (subst (HasFields halves.is_upper.page.head.fields) halves.from
      halves.order_upper.low)));
}

-- either half can be given back, and the page of the other read then
module _ (p q : TreePass) (i : ℕ) (key : FieldList) (left right : ℕ)
    (way : IsGoingDown p i key (left ∷ right ∷ []))
    (halves : HoldsBothHalves (view p) left right i key) where
  pub upper_may_go : MayGiveBack p right
  upper_may_go = may_give_back p way.known right i halves.level halves.upper halves.knows_upper
      halves.is_upper

  pub lower_may_go : MayGiveBack p left
  lower_may_go = may_give_back p way.known left i halves.level halves.lower halves.knows_lower
      halves.is_lower

  lower_has_frame : GivesFrame p right q → HasFrame q left halves.lower halves.lower
  lower_has_frame gave = frame_has q (gave_frame p q way.known right gave).known left halves.lower
      (still_gave p q right way.known gave left halves.lower halves.apart halves.knows_lower)

  upper_has_frame : GivesFrame p left q → HasFrame q right halves.upper halves.upper
  upper_has_frame gave = frame_has q (gave_frame p q way.known left gave).known right halves.upper
      (still_gave p q left way.known gave right halves.upper (λ e. halves.apart (sym e))
      halves.knows_upper)

  pub lower_held : GivesFrame p right q → HoldsPagedFrame q left
  lower_held gave =
      (halves.lower, halves.is_lower.page, lower_has_frame gave, halves.is_lower.paged)

  pub upper_held : GivesFrame p left q → HoldsPagedFrame q right
  upper_held gave =
      (halves.upper, halves.is_upper.page, upper_has_frame gave, halves.is_upper.paged)

-- the half that has the key is kept
module _ (p q : TreePass) (i : ℕ) (key : FieldList) (need left right : ℕ)
    (way : IsGoingDown p i key (left ∷ right ∷ [])) (small : need ≤ MAX_CHARGE) (at : PageInHand)
    (halves : HoldsBothHalves (view p) left right i key) where
  module _ (gave : GivesFrame p right q) (looks : Looks q left need at)
      (below : (it : HoldsBothHalves (view p) left right i key) → above key (At it.at) ≡ true) where
    lower_tells : (it : HoldsBothHalves (view p) left right i key)
        → TellsRoom left it.is_lower.page need at
    lower_tells it = looks it.lower it.is_lower.page
        (lower_has_frame p q i key left right way it gave) it.is_lower.paged

    pub keeps_lower : KeepsHalf p left right i key need at q
    keeps_lower = record {
      reaches = keeps_left p q i key need left right way halves.apart gave halves.level
          halves.lower halves.knows_lower
          (lower_has p i key left right way.fields halves (below halves)) at (lower_tells halves);
      level = λ it. its_level (view p) i key need left it.level at it.lower
          (lower_has p i key left right way.fields it (below it)) (lower_tells it);
      room = λ it lower upper. is_roomy left it.is_lower.page need at (lower_tells it) small lower;
    }

  module _ (gave : GivesFrame p left q) (looks : Looks q right need at)
      (not_below : (it : HoldsBothHalves (view p) left right i key) → above key (At it.at) ≡ false) where
    upper_tells : (it : HoldsBothHalves (view p) left right i key)
        → TellsRoom right it.is_upper.page need at
    upper_tells it = looks it.upper it.is_upper.page
        (upper_has_frame p q i key left right way it gave) it.is_upper.paged

    pub keeps_upper : KeepsHalf p left right i key need at q
    keeps_upper = record {
      reaches = keeps_right p q i key need left right way (λ e. halves.apart (sym e)) gave
          halves.level halves.upper halves.knows_upper
          (upper_has p i key left right way.fields halves (not_below halves)) at
          (upper_tells halves);
      level = λ it. its_level (view p) i key need right it.level at it.upper
          (upper_has p i key left right way.fields it (not_below it)) (upper_tells it);
      room = λ it lower upper. is_roomy right it.is_upper.page need at (upper_tells it) small upper;
    }
