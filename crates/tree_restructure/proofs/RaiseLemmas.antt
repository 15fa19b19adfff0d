-- Frames of a root that rose are a raise of the law.
use Rattle.std.proofs.Common.{ℕ, suc, true, false, [], ◌∷◌, List, ap, ◌∙◌, refl, arith, Option}
use Rattle.index_page.specs.declared.head.PageHead.{PageHead}
use Rattle.tree_law.specs.Pages.{Page, IsOrderly}
use Rattle.tree_law.specs.PageMoves.{TwoStoreys, full_page}
use Rattle.index_law.specs.Shape.{Shape}
use Rattle.forest_law.specs.declared.objects.Frame.{Frame}
use Rattle.forest_law.specs.declared.objects.Object.{Object}
use Rattle.forest_law.specs.State.{bound, page_within, fields_for}
use Rattle.forest_law.specs.Steps.{frame_step, MakesFrameStep, MakeSteps}
use Rattle.forest_law.specs.Restructures.{raise_steps, RaisesInHand}
use Rattle.tree_restructure.specs.Raises.{RaisesFrames, RaisesAreInHand}
use Rattle.tree_restructure.proofs.FrameLemmas.{same_under, goes, was_orderly, was_own}

module _ (shape : Shape) (before news : List (Option Object))
    (s : RaisesFrames shape before news) where
  abbrev root : ℕ
  root = s.raise.page.head.number

  abbrev under : ℕ
  under = s.raise.fresh.head.number

  abbrev storeys : TwoStoreys root under
  storeys = record {
    level = s.raise.page.head.level;
    fields = s.raise.page.head.fields;
    fresh = page_within s.raise.fresh s.below.old.low s.below.old.high;
    rows = s.raise.page.rows;
    moved = s.raise.new.rows;
    pointer = s.raise.raises.one.pointer;
    under_own = was_own shape before news under true s.below s.under s.raise.fresh
        s.raise.had_fresh;
    under_empty = s.raise.blank.empty;
    same = s.raise.raises.go;
    pointer_is = (s.raise.raises.one.child_is, s.raise.raises.one.first);
  }

  abbrev whole : Page
  whole = full_page root s.raise.page.head.level s.raise.page.head.fields s.raise.page.rows

  abbrev higher : Page
  higher = full_page root (suc s.raise.page.head.level) s.raise.page.head.fields
      (s.raise.raises.one.pointer ∷ [])

  abbrev lower : Page
  lower = full_page root s.raise.page.head.level s.raise.page.head.fields s.raise.new.rows

  old : IsOrderly (fields_for shape) (page_within s.raise.page s.top.old.low s.top.old.high)
  old = was_orderly shape before news root false s.top s.root s.raise.page s.raise.had

  top_makes : MakesFrameStep shape before news (frame_step s.top root whole higher)
  top_makes = let r = s.raise in
      goes shape before news root false s.top s.root r.page r.top whole higher r.had refl
      (assumption (s.whole, ap bound s.whole.low, ap bound s.whole.high)) r.has
      (ap (λ (h : PageHead). h.number) r.raises.head)
      (same_under r.top s.top.new higher r.raises.head (assumption s.whole)
      (ap (λ (f : Frame). bound f.low) r.root ∙ ap bound s.whole.low)
      (ap (λ (f : Frame). bound f.high) r.root ∙ ap bound s.whole.high) r.raises.one.is)
      r.raises.order (assumption (old.fields ∙ ap (fields_for shape) s.whole.index))

  below_makes : MakesFrameStep shape before news (frame_step s.below under storeys.fresh lower)
  below_makes = let r = s.raise in
      goes shape before news under true s.below s.under r.fresh r.new storeys.fresh lower
      r.had_fresh refl (assumption) r.has_new (ap (λ (h : PageHead). h.number) r.raises.new_head)
      (same_under r.new s.below.new lower r.raises.new_head
      (assumption (r.blank.index ∙ s.whole.index, r.blank))
      (ap (λ (f : Frame). bound f.low) r.under) (ap (λ (f : Frame). bound f.high) r.under) refl)
      r.raises.new_order (assumption (old.fields ∙ ap (fields_for shape) s.whole.index))

  makes : MakeSteps shape before news (raise_steps root under storeys s.top s.below)
      (s.tree ∷ [])
  makes = record {
    each = (top_makes, (below_makes, tt));
    tops = (s.grows, tt);
    others = λ k x y b apart aside. s.others k x y b (apart.0, (apart.1.0, (aside.0, tt)));
  }

  pub raise_in_hand : RaisesInHand shape before news
  raise_in_hand = record {
    root = root;
    under = under;
    storeys = storeys;
    two = λ inner one. absurd (omega (arith, s.two, one));
    moves = record {
      top = s.top;
      below = s.below;
      tree = s.tree;
      index = s.index;
      make = makes;
      top_rises = s.raise.rises;
      below_rises = s.raise.under_rises;
    };
    height = s.height;
  }

pub raises_are_in_hand : RaisesAreInHand
raises_are_in_hand = raise_in_hand
