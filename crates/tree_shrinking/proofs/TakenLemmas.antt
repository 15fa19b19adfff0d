-- Two pages are taken besides the page above them, and given back.
use Rattle.std.proofs.Common.{◌≢◌, ℕ, [], ◌∷◌, sym, ap, subst, refl, ◌∙◌}
use Rattle.key_tuple.specs.Order.{FieldList}
use Rattle.latch_space.specs.Has.{IsKnown}
use Rattle.latch_space.specs.Passes.{view}
use Rattle.index_page.specs.Rows.{Child}
use Rattle.forest_law.specs.declared.objects.Frame.{Frame}
use Rattle.forest_world.specs.Held.{TreePass, shape_of_pass}
use Rattle.call_law.specs.Hands.{KnowsFrame}
use Rattle.call_law.specs.Spoken.{View}
use Rattle.buffer_pool.specs.Forests.{IsFittedTree}
use Rattle.buffer_pool.specs.Frames.{GivesFrame}
use Rattle.buffer_pool.specs.Hands.{MayGiveBack}
use Rattle.buffer_pool.specs.Pages.{IsLive, HoldsOtherPages, PagesIn, HasTreePage}
use Rattle.buffer_pool.proofs.CallLemmas.{frame_has}
use Rattle.tree_descent.proofs.PageLemmas.{may_give_back}
use Rattle.tree_growth.specs.Pages.{HoldsPagedFrame}
use Rattle.tree_growth.specs.Ways.{IsGoingDown}
use Rattle.tree_growth.proofs.HandLemmas.{still_gave}
use Rattle.tree_shrinking.specs.declared.pairs.Pair.{Pair}
use Rattle.tree_shrinking.specs.declared.pairs.Siblings.{Siblings}
use Rattle.tree_shrinking.specs.Merging.{CanMerge}
use Rattle.tree_shrinking.specs.Pairs.{HoldsAbovePair, HoldsPair, AreToJoin, GoesTo, StillKnows, pair_in, TakesPair}
use Rattle.tree_growth.proofs.AddLemmas.{same_shape}
use Rattle.tree_descent.proofs.InnerLemmas.{one_known}
use Rattle.tree_shrinking.specs.Shrinking.{WasGiven}
use Rattle.tree_shrinking.specs.Joins.{GivesPair}
use Rattle.tree_shrinking.proofs.GivenLemmas.{given_more, among_first, among_second, gave_among}
use Rattle.tree_shrinking.proofs.OtherLemmas.{way_knows, has_other, holds_others}
use Rattle.tree_shrinking.proofs.PairLemmas.{left_live, right_live, left_other, right_other, left_page, right_page, pair_differ, left_parent, right_parent, both_apart}
use Rattle.tree_shrinking.proofs.WayLemmas.{way_took, way_gave, to_both, still_took}

-- the page above is still in hand
abbrev pub above_still : (p q : TreePass) (parent : ℕ) (asked : Siblings) (i : ℕ)
    → HoldsAbovePair (view p) parent asked i → StillKnows p parent q
    → HoldsAbovePair (view q) parent asked i
above_still p q parent asked i h still = record {
  level = h.level;
  up = h.up;
  knows = still h.up h.knows;
  above = h.above;
  points = h.points;
}

-- before the first page is taken
module _ {p : TreePass} {parent : ℕ} {asked : Siblings} {i : ℕ} {key : FieldList}
    (way : IsGoingDown p i key (parent ∷ [])) (h : HoldsAbovePair (view p) parent asked i) where
  pub first_live : IsLive (view p) asked.left
  first_live w law fits = let fitted : IsFittedTree (view p) =
      record { whole = w; is_lawful = law; fits = fits } in left_live fitted h

  pub first_others : IsFittedTree (view p) → HoldsOtherPages (view p) asked.left
  first_others fitted = holds_others (view p) asked.left (parent ∷ [])
      (way_knows p i key (parent ∷ []) way) (
        has_other (view p) asked.left parent h.up h.above.page h.knows h.above.paged
            (left_other fitted h),
        tt,
      )

  -- the first page was taken
  module _ {left : ℕ} {q : TreePass} (first : PagesIn p asked.left left q) where
    pub one : GoesTo p i key (parent ∷ left ∷ []) q
    one = way_took way first (λ k each. (each.1.0, (each.0, tt))) refl

    abbrev above_first : HoldsAbovePair (view q) parent asked i
    above_first = above_still p q parent asked i h (still_took first parent)

    pub second_live : IsLive (view q) asked.right
    second_live w law fits = let fitted : IsFittedTree (view q) =
        record { whole = w; is_lawful = law; fits = fits } in right_live fitted above_first

    pub second_others : IsFittedTree (view q) → HoldsOtherPages (view q) asked.right
    second_others fitted =
        let up = above_first in
        holds_others (view q) asked.right (parent ∷ left ∷ [])
        (way_knows q i key (parent ∷ left ∷ []) one.way) (
          has_other (view q) asked.right parent up.up up.above.page up.knows up.above.paged
              (right_other fitted up),
          (
            has_other (view q) asked.right left first.frame first.has.page first.knows
                first.has.paged
                (λ e. pair_differ fitted up (sym first.has.number ∙ e)),
            tt,
          ),
        )

    -- and the second one
    module _ {right : ℕ} {r : TreePass} (second : PagesIn q asked.right right r)
        (fitted : IsFittedTree (view r)) where
      two : GoesTo q i key (parent ∷ left ∷ right ∷ []) r
      two = way_took one.way second (λ k each. (each.1.1.0, (each.0, (each.1.0, tt)))) refl

      still : (b : ℕ) → StillKnows q b r
      still = still_took second

      abbrev above_second : HoldsAbovePair (view r) parent asked i
      above_second = above_still q r parent asked i above_first (still parent)

      pub takes_pair : TakesPair p (pair_in parent asked left right) asked i key r
      takes_pair =
          let up = above_second in
          let knows = still left first.frame first.knows in record {
            to = to_both one two;
            held = record {
              level = h.level;
              up = h.up;
              lower = first.frame;
              upper = second.frame;
              knows_up = up.knows;
              knows_left = knows;
              knows_right = second.knows;
              above = h.above;
              is_left = left_page fitted up left first.frame knows first.has;
              is_right = right_page fitted up right second.frame second.knows second.has;
              points = record {
                fore = h.points.fore;
                this = h.points.this;
                pointer = h.points.pointer;
                aft = h.points.aft;
                was = h.points.was;
                this_is = h.points.this_is ∙ ap Child (sym first.has.number);
                pointer_is = h.points.pointer_is ∙ ap Child (sym second.has.number);
              };
            };
            left = first.has.number;
            right = second.has.number;
            still = λ f knows. still parent f (still_took first parent f knows);
          }

-- both are given back
module _ {p q : TreePass} {pair : Pair} {i : ℕ} {key : FieldList}
    (way : IsGoingDown p i key (pair.parent ∷ pair.left ∷ pair.right ∷ []))
    (h : HoldsPair (view p) pair i) (fitted : IsFittedTree (view p))
    (first : GivesFrame p pair.right q) where
  apart_left : pair.left ≢ pair.parent
  apart_left = left_parent fitted h

  apart_right : pair.right ≢ pair.parent
  apart_right = right_parent fitted h

  apart_both : pair.right ≢ pair.left
  apart_both = both_apart fitted h

  abbrev gave_right : GoesTo p i key (pair.parent ∷ pair.left ∷ []) q
  gave_right = way_gave way first (λ k ne each. (each.0, (each.1.0, (ne, tt)))) refl

  pub left_held : MayGiveBack q pair.left
  left_held = may_give_back q gave_right.way.known pair.left i h.level h.lower
      (still_gave p q pair.right way.known first pair.left h.lower (λ e. apart_both (sym e))
      h.knows_left) h.is_left

  module _ {r : TreePass} (second : GivesFrame q pair.left r) where
    abbrev gave_left : GoesTo q i key (pair.parent ∷ []) r
    gave_left = way_gave gave_right.way second (λ k ne each. (each.0, (ne, tt))) refl

    abbrev pair_back : GoesTo p i key (pair.parent ∷ []) r
    pair_back = to_both gave_right gave_left

    pub parent_still : StillKnows p pair.parent r
    parent_still f knows = still_gave q r pair.left gave_right.way.known second pair.parent f
        (λ e. apart_left (sym e))
        (still_gave p q pair.right way.known first pair.parent f (λ e. apart_right (sym e)) knows)

    -- as both were known
    pub gives_pair : GivesPair p pair i key r
    gives_pair = let all = pair_back.goes.added.references in record {
      to = pair_back;
      still = parent_still;
      right = λ f knows. subst (λ g. WasGiven (shape_of_pass p) pair.right g all)
          (one_known (view p) pair.right first.frame f (first.taken, first.held) knows)
          (given_more (among_first gave_right gave_left) refl
          (gave_among (pair.parent ∷ pair.left ∷ []) way first
          (λ k ne each. (each.0, (each.1.0, (ne, tt)))) refl));
      left = λ f knows. subst (λ g. WasGiven (shape_of_pass p) pair.left g all)
          (one_known (view q) pair.left second.frame f (second.taken, second.held)
          (still_gave p q pair.right way.known first pair.left f (λ e. apart_both (sym e)) knows))
          (given_more (among_second gave_right gave_left)
          (same_shape p q gave_right.goes.added gave_right.goes.adds)
          (gave_among (pair.parent ∷ []) gave_right.way second (λ k ne each. (each.0, (ne, tt)))
          refl));
    }

-- a page in hand can be read
pub paged_frame : (p : TreePass) → IsKnown p → (b i level : ℕ) (f : Frame)
    → KnowsFrame (view p) b f → HasTreePage f i level → HoldsPagedFrame p b
paged_frame p known b i level f knows page = (f, page.page, frame_has p known b f knows, page.paged)

-- pages that are to be merged can be
pub can_merge : {v : View} {pair : Pair} {i : ℕ} (h : HoldsPair v pair i)
    → AreToJoin h.is_left.page h.is_right.page pair.right_asks
    → CanMerge v pair.parent pair.left pair.right i
can_merge h join = record {
  level = h.level;
  up = h.up;
  lower = h.lower;
  upper = h.upper;
  knows_up = h.knows_up;
  knows_left = h.knows_left;
  knows_right = h.knows_right;
  above = h.above;
  is_left = h.is_left;
  is_right = h.is_right;
  points = h.points;
  fits = join.fits;
}
