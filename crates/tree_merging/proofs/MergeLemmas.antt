-- Frames that were merged are a merge of the law.
use Rattle.std.proofs.Common.{◌≡◌, ◌≢◌, ℕ, false, [], List, sym, ap, subst, ◌∙◌, refl, Option, Some, None}
use Rattle.std.proofs.lemmas.Bool.{ne_eqb}
use Rattle.index_page.specs.declared.head.PageHead.{PageHead}
use Rattle.index_page.specs.Page.{PageRows}
use Rattle.tree_law.specs.Pages.{Page, HasFields, is_own, IsOrderly}
use Rattle.tree_law.specs.PageMoves.{TwoHalves, MergesPages, whole_page, left_page, right_page}
use Rattle.tree_law.proofs.PageRowLemmas.{own_of}
use Rattle.index_law.specs.Shape.{Shape}
use Rattle.forest_law.specs.declared.objects.Frame.{Frame}
use Rattle.forest_law.specs.declared.objects.Object.{Object}
use Rattle.forest_law.specs.State.{bound, page_within, fields_for}
use Rattle.forest_law.specs.Steps.{InHand, frame_step, MakesFrameStep, MakeSteps}
use Rattle.forest_law.specs.Restructures.{up_before, up_after, merge_steps, MergesInHand}
use Rattle.tree_restructure.specs.Links.{RelinksNext}
use Rattle.tree_restructure.specs.Splits.{NextTakesPart}
use Rattle.tree_restructure.proofs.FrameLemmas.{has_page, same_under, makes_step, goes, was_orderly, was_own}
use Rattle.tree_restructure.proofs.BeyondLemmas.{beyond_page, beyond_prev, beyond_stands, beyond_makes, beyond_apart}
use Rattle.tree_merging.specs.Merges.{emptied}
use Rattle.tree_merging.specs.MergeSteps.{MergesFrames, MergesAreInHand}
use Rattle.tree_merging.proofs.RowLemmas.{same_back}

-- an emptied page in a frame with no bounds is in order
pub emptied_orderly : (fields_of : ℕ → ℕ) (f : Frame) (page gone : PageRows) → gone ≡ emptied page
    → f.low ≡ None → f.high ≡ None → page.head.fields ≡ fields_of page.head.index
    → IsOrderly fields_of (page_within gone f.low f.high)
emptied_orderly fields_of f page gone is low high fields = subst (IsOrderly fields_of)
    (λ i. page_within ((sym is) i) ((sym low) i) ((sym high) i)) (record {
      fields = fields;
      keys = tt;
      low = tt;
      high = tt;
      bodies = tt;
      places = tt;
    })

-- the page behind is in the trees, and its neighbour before is another page
behind_tree : (shape : Shape) (before news : List (Option Object)) (left : ℕ) (hand : InHand)
    (o : Option ℕ) (x : RelinksNext left o hand.old hand.new)
    → NextTakesPart shape before news o hand → o ≢ Some left → (n : ℕ) → o ≡ Some n
    → (is_own n (Some left) ≡ false)
    × (is_own n (beyond_prev shape before news left hand o x) ≡ false)
behind_tree shape before news left hand None x part apart n e = absurd cc
behind_tree shape before news left hand (Some m) x part apart n e = let same : m ≡ n = cc in (
  ne_eqb left n (λ q. apart (ap Some (same ∙ sym q))),
  subst (λ k. is_own k x.0.page.head.prev ≡ false) same
      (was_own shape before news m false hand part x.0.page x.0.had),
)

module _ (shape : Shape) (before news : List (Option Object))
    (s : MergesFrames shape before news) where
  abbrev left : ℕ
  left = s.under.merge.page.head.number

  abbrev right : ℕ
  right = s.under.merge.other.head.number

  abbrev parent : ℕ
  parent = s.under.pointer.was.page.head.number

  abbrev next : Option ℕ
  next = s.under.merge.other.head.next

  abbrev whole : Page
  whole = record {
    index = s.under.merge.page.head.index;
    level = s.under.merge.page.head.level;
    fields = s.under.merge.page.head.fields;
    prev = s.under.merge.page.head.prev;
    next = s.under.merge.other.head.next;
    low = bound s.hands.left.old.low;
    high = bound s.hands.right.old.high;
    rows = s.under.merge.page.rows;
  }

  abbrev halves : TwoHalves left right parent
  halves = record {
    page = whole;
    fresh = page_within s.under.merge.gone s.hands.right.new.low s.hands.right.new.high;
    up = page_within s.under.pointer.was.page s.hands.up.old.low s.hands.up.old.high;
    beyond = beyond_page shape before news left s.hands.beyond whole next s.links;
    whole_prev = Some left;
    cut_prev = beyond_prev shape before news left s.hands.beyond next s.links;
    at = s.under.at;
    lower = s.under.merge.page.rows;
    upper = s.under.merge.merges.moved;
    moved = s.under.merge.other.rows;
    fore = s.under.pointer.was.fore;
    this = s.under.pointer.was.this;
    new = s.under.pointer.was.pointer;
    aft = s.under.pointer.was.aft;
    left_tree = was_own shape before news left false s.hands.left s.left s.under.merge.page
        s.under.merge.had;
    right_own = own_of right s.under.merge.gone.head.prev
        (ap (λ (p : PageRows). p.head.prev) s.under.merge.merges.is_gone);
    right_empty = ap (λ (p : PageRows). p.rows) s.under.merge.merges.is_gone;
    up_tree = was_own shape before news parent false s.hands.up s.up s.under.pointer.was.page
        s.under.pointer.was.has;
    beyond_tree = behind_tree shape before news left s.hands.beyond next s.links s.beyond s.apart;
    same = same_back s.under.merge.other.rows s.under.merge.merges.moved s.under.merge.merges.same;
    this_is = s.under.pointer.was.this_is;
    new_is = s.under.pointer.was.pointer_is;
  }

  abbrev merges : MergesPages left right parent
  merges = record { halves = halves; names = refl }

  left_old : IsOrderly (fields_for shape)
      (page_within s.under.merge.page s.hands.left.old.low s.hands.left.old.high)
  left_old = was_orderly shape before news left false s.hands.left s.left s.under.merge.page
      s.under.merge.had

  right_old : IsOrderly (fields_for shape)
      (page_within s.under.merge.other s.hands.right.old.low s.hands.right.old.high)
  right_old = was_orderly shape before news right false s.hands.right s.right s.under.merge.other
      s.under.merge.had_other

  left_makes : MakesFrameStep shape before news (frame_step s.hands.left left
      (left_page left right parent halves) (whole_page left right parent halves))
  left_makes = let c = s.under.merge in
      let is = whole_page left right parent halves in
      goes shape before news left false s.hands.left s.left c.page c.whole
      (left_page left right parent halves) is c.had refl (assumption c.follows) c.has
      (ap (λ (h : PageHead). h.number) c.merges.head)
      (same_under c.whole s.hands.left.new is c.merges.head (assumption)
      (ap (λ (f : Frame). bound f.low) c.left) (ap bound c.reaches) c.merges.behind)
      c.merges.order (assumption (
        left_old,
        subst
            (λ k. HasFields k (bound s.hands.right.old.high)) c.follows.fields right_old.high,
      ))

  right_makes : MakesFrameStep shape before news (frame_step s.hands.right right
      (right_page left right parent halves) halves.fresh)
  right_makes = let c = s.under.merge in
      let was = right_page left right parent halves in
      makes_step shape before news right false s.hands.right s.right was halves.fresh
      (has_page s.hands.right.old right c.other was c.had_other refl (assumption c.follows))
      (has_page s.hands.right.new right c.gone halves.fresh c.has_gone
      (ap (λ (p : PageRows). p.head.number) c.merges.is_gone) (assumption))
      (emptied_orderly (fields_for shape) s.hands.right.new c.other c.gone c.merges.is_gone
      (ap (λ (f : Frame). f.low) c.right) (ap (λ (f : Frame). f.high) c.right) right_old.fields)

  up_makes : MakesFrameStep shape before news (frame_step s.hands.up parent
      (up_after left right parent halves) (up_before left right parent halves))
  up_makes = let p = s.under.pointer in
      let is = up_before left right parent halves in
      let old = was_orderly shape before news parent false s.hands.up s.up p.was.page p.was.has in
      goes shape before news parent false s.hands.up s.up p.was.page p.new
      (up_after left right parent halves) is p.was.has refl (assumption p.was.was)
      (ap (λ (f : Frame). f.page) p.kept) (ap (λ (h : PageHead). h.number) p.head)
      (same_under p.new s.hands.up.new is p.head (assumption)
      (ap (λ (f : Frame). bound f.low) p.kept) (ap (λ (f : Frame). bound f.high) p.kept) p.is)
      p.order (assumption old)

  makes : MakeSteps shape before news (merge_steps left right parent halves s.hands) []
  makes = record {
    each = (
      left_makes,
      (
        right_makes,
        (
          up_makes,
          beyond_makes shape before news left s.hands.beyond whole next s.links s.beyond,
        ),
      ),
    );
    tops = tt;
    others = λ k x y b apart aside. s.others k x y b (
      apart.0,
      (
        apart.1.0,
        (
          apart.1.1.0,
          beyond_apart shape before news left s.hands.beyond halves.beyond halves.cut_prev
              (Some left) k next apart.1.1.1,
        ),
      ),
    );
  }

  pub merge_in_hand : MergesInHand shape before news
  merge_in_hand = record {
    left = left;
    right = right;
    parent = parent;
    merge = merges;
    small = s.small;
    alone = s.alone;
    hands = s.hands;
    make = makes;
    left_rises = s.under.merge.rises;
    right_rises = s.under.merge.right_rises;
    up_rises = s.under.pointer.rises;
    beyond_stands = beyond_stands shape before news left s.hands.beyond next s.links;
  }

pub merges_are_in_hand : MergesAreInHand
merges_are_in_hand = merge_in_hand
