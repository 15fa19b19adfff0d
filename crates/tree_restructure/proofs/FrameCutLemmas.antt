-- Frames whose pages were cut, got a pointer, or rose.
use Rattle.std.proofs.Common.{◌≡◌, ℕ, Some, None, sym, ap, subst, ◌∙◌, refl}
use Rattle.key_tuple.specs.Order.{FieldList}
use Rattle.key_tuple.specs.declared.key.Key.{Key}
use Rattle.list_facts.proofs.Places.{same_some}
use Rattle.index_page.specs.Rows.{Child, placed_row}
use Rattle.index_page.specs.Page.{PageRows, IsPageInOrder}
use Rattle.index_page.specs.Changes.{Inserts}
use Rattle.clock_law.specs.ModifyClock.{ClockRises}
use Rattle.forest_law.specs.declared.objects.Frame.{Frame}
use Rattle.forest_law.specs.State.{bound}
use Rattle.tree_restructure.specs.FrameCuts.{CutsIn, CutsFrame}
use Rattle.tree_restructure.specs.Pointers.{RangeHas, PutsBehind}
use Rattle.tree_restructure.specs.Raises.{RaisesIn, RaisesFrame}
use Rattle.tree_restructure.proofs.BehindLemmas.{puts_behind}

-- pages that were cut, with the bounds and clocks of their frames
pub cuts_frame : (l l1 m r r1 n : Frame) (at : FieldList) (key high : Key) → CutsIn l l1 r r1 at
    → key.tuple ≡ at → high.tuple ≡ at → m ≡ record l1 { high = Some high; clock = m.clock }
    → n ≡ record r1 { low = Some key; high = l1.high; clock = n.clock }
    → ClockRises l1.clock m.clock → ClockRises r1.clock n.clock → CutsFrame l m r n at
cuts_frame l l1 m r r1 n at key high c k h left right rise other = record {
  page = c.page;
  stays = c.stays;
  fresh = c.fresh;
  new = c.new;
  had = c.had;
  has = ap (λ (f : Frame). f.page) left ∙ ap (λ (f : Frame). f.page) c.left;
  had_fresh = c.had_fresh;
  has_new = ap (λ (f : Frame). f.page) right ∙ ap (λ (f : Frame). f.page) c.right;
  blank = c.blank;
  cuts = c.cuts;
  ends = ap (λ (f : Frame). bound f.high) left ∙ ap Some h;
  begins = ap (λ (f : Frame). bound f.low) right ∙ ap Some k;
  reaches = ap (λ (f : Frame). f.high) right ∙ ap (λ (f : Frame). f.high) c.left;
  rises = subst (λ x. ClockRises x m.clock) (ap (λ (f : Frame). f.clock) c.left) rise;
  right_rises = subst (λ x. ClockRises x n.clock) (ap (λ (f : Frame). f.clock) c.right) other;
  left = λ i. record m { low = (ap (λ (f : Frame). f.low) left ∙ ap (λ (f : Frame). f.low) c.left) i };
  right = refl;
}

-- a page that rose, with the bounds and clocks of its frames
pub raises_frame : (t t1 m b b1 n : Frame) → RaisesIn t t1 b b1 → m ≡ record t1 { clock = m.clock }
    → n ≡ record b1 { low = None; high = None; clock = n.clock }
    → ClockRises t1.clock m.clock → ClockRises b1.clock n.clock → RaisesFrame t m b n
raises_frame t t1 m b b1 n c root under rise other = record {
  page = c.page;
  top = c.top;
  fresh = c.fresh;
  new = c.new;
  had = c.had;
  has = ap (λ (f : Frame). f.page) root ∙ ap (λ (f : Frame). f.page) c.root;
  had_fresh = c.had_fresh;
  has_new = ap (λ (f : Frame). f.page) under ∙ ap (λ (f : Frame). f.page) c.under;
  blank = c.blank;
  raises = c.raises;
  rises = subst (λ x. ClockRises x m.clock) (ap (λ (f : Frame). f.clock) c.root) rise;
  under_rises = subst (λ x. ClockRises x n.clock) (ap (λ (f : Frame). f.clock) c.under) other;
  root = λ i. record m {
    low = (ap (λ (f : Frame). f.low) root ∙ ap (λ (f : Frame). f.low) c.root) i;
    high = (ap (λ (f : Frame). f.high) root ∙ ap (λ (f : Frame). f.high) c.root) i;
  };
  under = λ i. record n { low = ap (λ (f : Frame). f.low) under i; high = ap (λ (f : Frame). f.high) under i };
}

-- a pointer that was put in on the page of a frame
pub puts_pointer : (place child : ℕ) (f : Frame) (page new : PageRows) (at : FieldList)
    → f.page ≡ Some page → Inserts page new (placed_row place at (Child child))
    → IsPageInOrder new → PutsBehind place child f (record f { page = Some new }) at
puts_pointer place child f page new at has i order left around =
    let same : around.page ≡ page = same_some around.page page (sym around.has ∙ has) in
    let range = subst (λ (p : PageRows). RangeHas p left at) same around.range in (
      record {
        page = page;
        new = new;
        had = has;
        kept = refl;
        fore = range.fore;
        this = range.this;
        pointer = placed_row place at (Child child);
        aft = range.aft;
        was = range.was;
        is = puts_behind page new left (placed_row place at (Child child)) i order range;
        this_is = range.this_is;
        pointer_is = refl;
        key_is = refl;
        head = i.head;
        order = order;
      },
      refl,
    )
