-- Frames that were split are a split of the law.
use Rattle.std.proofs.Common.{◌≡◌, ℕ, true, false, [], ◌∷◌, List, sym, ap, ◌∙◌, refl, arith, length, Option, Some}
use Rattle.std.specs.List.{AllByRecursion}
use Rattle.key_tuple.specs.Order.{FieldList}
use Rattle.index_page.specs.declared.head.PageHead.{PageHead}
use Rattle.index_page.specs.Page.{IsRowOf}
use Rattle.index_page.specs.Rows.{Row}
use Rattle.index_page.specs.Loads.{charge_of}
use Rattle.tree_law.specs.PageBudget.{short_keys}
use Rattle.tree_law.specs.BudgetLaws.{SplitIsDue}
use Rattle.tree_law.specs.Pages.{Page, IsOrderly}
use Rattle.tree_law.specs.PageMoves.{TwoHalves, SplitsPage, BeginsAt, whole_page, left_page, right_page}
use Rattle.index_law.specs.Shape.{Shape}
use Rattle.forest_law.specs.declared.objects.Frame.{Frame}
use Rattle.forest_law.specs.declared.objects.Object.{Object}
use Rattle.forest_law.specs.State.{bound, page_within, fields_for}
use Rattle.forest_law.specs.Steps.{MakesFrameStep, MakeSteps}
use Rattle.forest_law.specs.Restructures.{up_before, up_after, split_steps, SplitsInHand}
use Rattle.tree_restructure.specs.Splits.{SplitsFrames, SplitsAreInHand}
use Rattle.tree_restructure.proofs.BeyondLemmas.{beyond_page, beyond_prev, beyond_tree, beyond_stands, beyond_makes, beyond_apart}
use Rattle.tree_restructure.proofs.DueLemmas.{child_charge, this_and_next, load_whole, loads_near}
use Rattle.tree_restructure.proofs.FrameLemmas.{same_under, goes, was_orderly, was_own}

-- the key at which rows begin has as many fields as the page's keys
first_fields : (head : PageHead) (at : FieldList) (rows : List Row) → BeginsAt at rows
    → AllByRecursion (IsRowOf head) rows → length at ≡ head.fields
first_fields head at [] b a = absurd b
first_fields head at (x ∷ xs) b a = ap length (sym b) ∙ a.0.fields

module _ (shape : Shape) (before news : List (Option Object))
    (s : SplitsFrames shape before news) where
  abbrev left : ℕ
  left = s.cut.page.head.number

  abbrev right : ℕ
  right = s.cut.fresh.head.number

  abbrev parent : ℕ
  parent = s.pointer.page.head.number

  abbrev next : Option ℕ
  next = s.cut.page.head.next

  abbrev whole : Page
  whole = page_within s.cut.page s.hands.left.old.low s.hands.left.old.high

  abbrev halves : TwoHalves left right parent
  halves = record {
    page = whole;
    fresh = page_within s.cut.fresh s.hands.right.old.low s.hands.right.old.high;
    up = page_within s.pointer.page s.hands.up.old.low s.hands.up.old.high;
    beyond = beyond_page shape before news right s.hands.beyond whole next s.links;
    whole_prev = beyond_prev shape before news right s.hands.beyond next s.links;
    cut_prev = Some right;
    at = s.at;
    lower = s.cut.cuts.lower;
    upper = s.cut.cuts.upper;
    moved = s.cut.new.rows;
    fore = s.pointer.fore;
    this = s.pointer.this;
    new = s.pointer.pointer;
    aft = s.pointer.aft;
    left_tree = was_own shape before news left false s.hands.left s.left s.cut.page s.cut.had;
    right_own = was_own shape before news right true s.hands.right s.right s.cut.fresh
        s.cut.had_fresh;
    right_empty = s.cut.blank.empty;
    up_tree = was_own shape before news parent false s.hands.up s.up s.pointer.page s.pointer.had;
    beyond_tree = beyond_tree shape before news right s.hands.beyond next s.links s.beyond s.apart;
    same = s.cut.cuts.go;
    this_is = s.pointer.this_is;
    new_is = s.pointer.pointer_is;
  }

  abbrev splits : SplitsPage left right parent
  splits = record {
    halves = halves;
    stays = λ e. (let some = s.cut.cuts.halves.some_left in
        let none : length s.cut.cuts.lower ≡ 0 = ap length e in omega arith);
    cuts = s.cut.cuts.begins;
    key = s.pointer.key_is;
    names = refl;
  }

  -- the parent's two pointers are rows of its page
  pointers_fit : IsRowOf s.pointer.new.head s.pointer.this
      × IsRowOf s.pointer.new.head s.pointer.pointer
  pointers_fit = let p = s.pointer in
      this_and_next p.new.head p.new.rows p.fore p.aft p.this p.pointer p.order.each p.is

  split_is_due : SplitIsDue short_keys charge_of left right parent splits
  split_is_due =
      let c = s.cut.cuts in
      let near = loads_near s.cut.page s.cut.stays s.cut.fresh s.cut.new s.at c in
      let all = load_whole s.cut.page s.cut.stays s.cut.fresh s.cut.new s.at c in
      let full = s.full in
      let fits = c.whole.fits in record {
        fits = omega (arith, fits, all);
        full = omega (arith, full, fits, all);
        left_half = near.0;
        right_half = near.1;
        this = child_charge s.pointer.new.head s.pointer.this left pointers_fit.0 s.pointer.this_is;
        new = child_charge s.pointer.new.head s.pointer.pointer right pointers_fit.1
            s.pointer.pointer_is;
      }

  -- the new key has as many fields as the others
  at_fields : length s.at ≡ s.cut.page.head.fields
  at_fields = first_fields s.cut.new.head s.at s.cut.new.rows s.cut.cuts.begins
      s.cut.cuts.new_order.each ∙ ap (λ (h : PageHead). h.fields) s.cut.cuts.new_head
      ∙ s.cut.blank.fields

  left_old : IsOrderly (fields_for shape) whole
  left_old = was_orderly shape before news left false s.hands.left s.left s.cut.page s.cut.had

  left_makes : MakesFrameStep shape before news
      (record {
        hand = s.hands.left;
        number = left;
        was = whole_page left right parent halves;
        is = left_page left right parent halves;
      })
  left_makes = let c = s.cut in
      let is = left_page left right parent halves in
      goes shape before news left false s.hands.left s.left c.page c.stays
      (whole_page left right parent halves) is c.had refl (assumption c.cuts.was) c.has
      (ap (λ (h : PageHead). h.number) c.cuts.head)
      (same_under c.stays s.hands.left.new is c.cuts.head (assumption)
      (ap (λ (f : Frame). bound f.low) c.left) c.ends c.cuts.stay)
      c.cuts.order (assumption (left_old, at_fields))

  right_makes : MakesFrameStep shape before news
      (record {
        hand = s.hands.right;
        number = right;
        was = halves.fresh;
        is = right_page left right parent halves;
      })
  right_makes = let c = s.cut in
      let is = right_page left right parent halves in
      goes shape before news right true s.hands.right s.right c.fresh c.new halves.fresh is
      c.had_fresh refl (assumption) c.has_new (ap (λ (h : PageHead). h.number) c.cuts.new_head)
      (same_under c.new s.hands.right.new is c.cuts.new_head (assumption c.blank) c.begins
      (ap bound c.reaches) refl)
      c.cuts.new_order (assumption (left_old, at_fields))

  up_makes : MakesFrameStep shape before news
      (record {
        hand = s.hands.up;
        number = parent;
        was = up_before left right parent halves;
        is = up_after left right parent halves;
      })
  up_makes = let p = s.pointer in
      let is = up_after left right parent halves in
      let old = was_orderly shape before news parent false s.hands.up s.up p.page p.had in
      goes shape before news parent false s.hands.up s.up p.page p.new
      (up_before left right parent halves) is p.had refl (assumption p.was)
      (ap (λ (f : Frame). f.page) p.kept) (ap (λ (h : PageHead). h.number) p.head)
      (same_under p.new s.hands.up.new is p.head (assumption)
      (ap (λ (f : Frame). bound f.low) p.kept) (ap (λ (f : Frame). bound f.high) p.kept) p.is)
      p.order (assumption old)

  makes : MakeSteps shape before news (split_steps left right parent halves s.hands) []
  makes = record {
    each = (
      left_makes,
      (
        right_makes,
        (
          up_makes,
          beyond_makes shape before news right s.hands.beyond whole next s.links s.beyond,
        ),
      ),
    );
    tops = tt;
    others = λ k x y b apart aside. s.others k x y b (
      apart.0,
      (
        apart.1.0,
        (
          apart.1.1.0,
          beyond_apart shape before news right s.hands.beyond halves.beyond halves.whole_prev
              (Some right) k next apart.1.1.1,
        ),
      ),
    );
  }

  pub split_in_hand : SplitsInHand shape before news
  split_in_hand = record {
    left = left;
    right = right;
    parent = parent;
    split = splits;
    due = split_is_due;
    hands = s.hands;
    make = makes;
    left_rises = s.cut.rises;
    right_rises = s.cut.right_rises;
    up_stands = omega (arith, ap (λ (f : Frame). f.clock) s.pointer.kept);
    beyond_stands = beyond_stands shape before news right s.hands.beyond next s.links;
  }

pub splits_are_in_hand : SplitsAreInHand
splits_are_in_hand = split_in_hand
