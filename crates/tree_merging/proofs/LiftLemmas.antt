-- Frames of a root that took the rows of its only child are a lift of the law.
use Rattle.std.proofs.Common.{ℕ, suc, false, [], ◌∷◌, List, ap, ◌∙◌, refl, Option}
use Rattle.index_page.specs.declared.head.PageHead.{PageHead}
use Rattle.index_page.specs.Page.{PageRows}
use Rattle.tree_law.specs.Pages.{Page, IsOrderly}
use Rattle.tree_law.specs.PageMoves.{TwoStoreys, full_page}
use Rattle.tree_law.proofs.PageRowLemmas.{own_of}
use Rattle.index_law.specs.Shape.{Shape}
use Rattle.forest_law.specs.declared.objects.Frame.{Frame}
use Rattle.forest_law.specs.declared.objects.Object.{Object}
use Rattle.forest_law.specs.State.{bound, page_within, fields_for}
use Rattle.forest_law.specs.Steps.{frame_step, MakesFrameStep, MakeSteps}
use Rattle.forest_law.specs.Restructures.{lift_steps, LiftsInHand}
use Rattle.tree_restructure.proofs.FrameLemmas.{has_page, same_under, makes_step, goes, was_orderly}
use Rattle.tree_merging.specs.Lifts.{LiftsFrames, LiftsAreInHand}
use Rattle.tree_merging.proofs.MergeLemmas.{emptied_orderly}
use Rattle.tree_merging.proofs.RowLemmas.{same_back}

module _ (shape : Shape) (before news : List (Option Object))
    (s : LiftsFrames shape before news) where
  abbrev root : ℕ
  root = s.lift.page.head.number

  abbrev under : ℕ
  under = s.lift.under.head.number

  abbrev storeys : TwoStoreys root under
  storeys = record {
    level = s.lift.under.head.level;
    fields = s.lift.page.head.fields;
    fresh = page_within s.lift.gone s.below.new.low s.below.new.high;
    rows = s.lift.top.rows;
    moved = s.lift.under.rows;
    pointer = s.one.pointer;
    under_own = own_of under s.lift.gone.head.prev
        (ap (λ (p : PageRows). p.head.prev) s.lift.lifts.is_gone);
    under_empty = ap (λ (p : PageRows). p.rows) s.lift.lifts.is_gone;
    same = same_back s.lift.under.rows s.lift.top.rows s.lift.lifts.go;
    pointer_is = (s.one.child_is, s.one.first);
  }

  abbrev higher : Page
  higher = full_page root (suc s.lift.under.head.level) s.lift.page.head.fields
      (s.one.pointer ∷ [])

  abbrev lower : Page
  lower = full_page root s.lift.under.head.level s.lift.page.head.fields s.lift.top.rows

  abbrev child : Page
  child = full_page root s.lift.under.head.level s.lift.page.head.fields s.lift.under.rows

  old : IsOrderly (fields_for shape) (page_within s.lift.page s.top.old.low s.top.old.high)
  old = was_orderly shape before news root false s.top s.root s.lift.page s.lift.had

  child_old : IsOrderly (fields_for shape)
      (page_within s.lift.under s.below.old.low s.below.old.high)
  child_old = was_orderly shape before news under false s.below s.child s.lift.under
      s.lift.had_under

  top_makes : MakesFrameStep shape before news (frame_step s.top root higher lower)
  top_makes = let r = s.lift in
      goes shape before news root false s.top s.root r.page r.top higher lower r.had refl
      (assumption (s.whole, s.only.level, s.one.is, ap bound s.whole.low, ap bound s.whole.high))
      r.has (ap (λ (h : PageHead). h.number) r.lifts.head)
      (same_under r.top s.top.new lower r.lifts.head (assumption s.whole)
      (ap (λ (f : Frame). bound f.low) r.root ∙ ap bound s.whole.low)
      (ap (λ (f : Frame). bound f.high) r.root ∙ ap bound s.whole.high) refl)
      r.lifts.order (assumption (old.fields ∙ ap (fields_for shape) s.whole.index))

  below_makes : MakesFrameStep shape before news (frame_step s.below under child storeys.fresh)
  below_makes = let r = s.lift in
      makes_step shape before news under false s.below s.child child storeys.fresh
      (has_page s.below.old under r.under child r.had_under refl
      (assumption (s.only, ap bound s.only.low, ap bound s.only.high)))
      (has_page s.below.new under r.gone storeys.fresh r.has_gone
      (ap (λ (p : PageRows). p.head.number) r.lifts.is_gone) (assumption))
      (emptied_orderly (fields_for shape) s.below.new r.under r.gone r.lifts.is_gone
      (ap (λ (f : Frame). f.low) r.child) (ap (λ (f : Frame). f.high) r.child) child_old.fields)

  makes : MakeSteps shape before news (lift_steps root under storeys s.top s.below)
      (s.tree ∷ [])
  makes = record {
    each = (top_makes, (below_makes, tt));
    tops = (s.sinks, tt);
    others = λ k x y b apart aside. s.others k x y b (apart.0, (apart.1.0, (aside.0, tt)));
  }

  pub lift_in_hand : LiftsInHand shape before news
  lift_in_hand = record {
    root = root;
    under = under;
    storeys = storeys;
    alone = s.alone;
    moves = record {
      top = s.top;
      below = s.below;
      tree = s.tree;
      index = s.index;
      make = makes;
      top_rises = s.lift.rises;
      below_rises = s.lift.under_rises;
    };
    height = s.height;
  }

pub lifts_are_in_hand : LiftsAreInHand
lifts_are_in_hand = lift_in_hand
