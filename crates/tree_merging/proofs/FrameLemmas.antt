-- Frames whose pages were merged, lost a pointer, or sank.
use Rattle.std.proofs.Common.{◌≡◌, ℕ, Some, None, ◌∷◌, [], ◌++◌, sym, ap, subst, ◌∙◌, append_assoc}
use Rattle.key_tuple.specs.Order.{FieldList}
use Rattle.list_facts.proofs.Places.{same_some}
use Rattle.index_page.specs.Page.{PageRows}
use Rattle.clock_law.specs.ModifyClock.{ClockRises}
use Rattle.forest_law.specs.declared.objects.Frame.{Frame}
use Rattle.forest_law.specs.State.{bound}
use Rattle.tree_merging.specs.Merges.{MergesPage, KeyStands}
use Rattle.tree_merging.specs.FrameMerges.{PointsToBoth, SuitsMerge, SuitsPairIn, MergesIn, LosesPointer, MergesFrame, DropsPointer, MergesUnder}
use Rattle.tree_merging.specs.Lifts.{LiftsIn, LiftsFrame}

-- the pages of frames that suit a merge do so themselves
pub suits_pair : (l r u : Frame) → SuitsMerge l r u → SuitsPairIn l r
suits_pair l r u s = record {
  at = s.at;
  page = s.page;
  other = s.other;
  has = s.has;
  has_other = s.has_other;
  suits = assumption (s.follows, s.fits, s.number);
}

-- the second of two pointers in a row
behind : (left right : ℕ) (f : Frame) (at : FieldList) (p : PointsToBoth left right f at)
    → p.page.rows ≡ (p.fore ++ p.this ∷ []) ++ p.pointer ∷ p.aft
behind left right f at p = p.was ∙ sym (append_assoc p.fore (p.this ∷ []) (p.pointer ∷ p.aft))

-- stands on its page
pub pointer_stands : (left right : ℕ) (f : Frame) (at : FieldList) → PointsToBoth left right f at
    → (page : PageRows) → f.page ≡ Some page → KeyStands page at
pointer_stands left right f at p page has = subst (λ (q : PageRows). KeyStands q at)
    (same_some p.page page (sym p.has ∙ has)) (record {
      fore = p.fore ++ p.this ∷ [];
      row = p.pointer;
      aft = p.aft;
      was = behind left right f at p;
      is_key = p.key_is;
    })

-- and is dropped where its key is lost and the clock rises
pub drops_pointer : (left right : ℕ) (f g h : Frame) (at : FieldList)
    → PointsToBoth left right f at → LosesPointer f g at → ClockRises g.clock h.clock
    → h ≡ record g { clock = h.clock } → DropsPointer left right f h at
drops_pointer left right f g h at p l rise kept =
    let same : l.page ≡ p.page = same_some l.page p.page (sym l.had ∙ p.has) in record {
      was = p;
      new = l.new;
      is = l.loses.rows (p.fore ++ p.this ∷ []) p.pointer p.aft
          (ap (λ (q : PageRows). q.rows) same ∙ behind left right f at p) p.key_is
          ∙ append_assoc p.fore (p.this ∷ []) p.aft;
      head = l.loses.head ∙ ap (λ (q : PageRows). q.head) same;
      order = l.loses.order;
      rises = subst (λ x. ClockRises x h.clock) (ap (λ (x : Frame). x.clock) l.kept) rise;
      kept = kept ∙ (λ i. (let x = l.kept i in record x { clock = h.clock }));
    }

-- pages that were merged, with the bounds and clocks of their frames
unfoldable pub merges_frame : (l l1 m r r1 n u : Frame) (s : SuitsMerge l r u) → MergesIn l l1 r r1
    → m ≡ record l1 { high = r1.high; clock = m.clock }
    → n ≡ record r1 { low = None; high = None; clock = n.clock }
    → ClockRises l1.clock m.clock → ClockRises r1.clock n.clock → MergesFrame l m r n s.at
merges_frame l l1 m r r1 n u s c left right rise other =
    let same : s.page ≡ c.page = same_some s.page c.page (sym s.has ∙ c.had) in
    let same_other : s.other ≡ c.other = same_some s.other c.other (sym s.has_other ∙ c.had_other) in
    record {
      page = s.page;
      whole = c.whole;
      other = s.other;
      gone = c.gone;
      had = s.has;
      has = ap (λ (f : Frame). f.page) left ∙ ap (λ (f : Frame). f.page) c.left;
      had_other = s.has_other;
      has_gone = ap (λ (f : Frame). f.page) right ∙ ap (λ (f : Frame). f.page) c.right;
      follows = s.follows;
      merges = subst (λ (p : PageRows). MergesPage p c.whole s.other c.gone) (sym same)
          (subst (λ (p : PageRows). MergesPage c.page c.whole p c.gone) (sym same_other) c.merges);
      reaches = ap (λ (f : Frame). f.high) left ∙ ap (λ (f : Frame). f.high) c.right;
      rises = subst (λ x. ClockRises x m.clock) (ap (λ (f : Frame). f.clock) c.left) rise;
      right_rises = subst (λ x. ClockRises x n.clock) (ap (λ (f : Frame). f.clock) c.right) other;
      left = λ i. record m { low = (ap (λ (f : Frame). f.low) left ∙ ap (λ (f : Frame). f.low) c.left) i };
      right = λ i. record n { low = ap (λ (f : Frame). f.low) right i; high = ap (λ (f : Frame). f.high) right i };
    }

-- and a pointer that went with them
pub merges_under : (l l1 m r r1 n u v x : Frame) (s : SuitsMerge l r u) → MergesIn l l1 r r1
    → ((at : FieldList) → bound r1.low ≡ Some at → LosesPointer u v at)
    → m ≡ record l1 { high = r1.high; clock = m.clock }
    → n ≡ record r1 { low = None; high = None; clock = n.clock }
    → x ≡ record v { clock = x.clock } → ClockRises l1.clock m.clock → ClockRises r1.clock n.clock
    → ClockRises v.clock x.clock → MergesUnder l m r n u x
unfolding merges_frame
merges_under l l1 m r r1 n u v x s c loses left right up rise other last = record {
  at = s.at;
  merge = merges_frame l l1 m r r1 n u s c left right rise other;
  pointer = drops_pointer s.page.head.number s.other.head.number u v x s.at s.up
      (loses s.at (ap (λ (f : Frame). bound f.low) c.right ∙ s.follows.low)) last up;
}

-- a page that sank, with the bounds and clocks of its frames
pub lifts_frame : (t t1 m b b1 n : Frame) → LiftsIn t t1 b b1 → m ≡ record t1 { clock = m.clock }
    → n ≡ record b1 { low = None; high = None; clock = n.clock }
    → ClockRises t1.clock m.clock → ClockRises b1.clock n.clock → LiftsFrame t m b n
lifts_frame t t1 m b b1 n c root child rise other = record {
  page = c.page;
  top = c.top;
  under = c.under;
  gone = c.gone;
  had = c.had;
  has = ap (λ (f : Frame). f.page) root ∙ ap (λ (f : Frame). f.page) c.root;
  had_under = c.had_under;
  has_gone = ap (λ (f : Frame). f.page) child ∙ ap (λ (f : Frame). f.page) c.child;
  lifts = c.lifts;
  rises = subst (λ x. ClockRises x m.clock) (ap (λ (f : Frame). f.clock) c.root) rise;
  under_rises = subst (λ x. ClockRises x n.clock) (ap (λ (f : Frame). f.clock) c.child) other;
  root = λ i. record m {
    low = (ap (λ (f : Frame). f.low) root ∙ ap (λ (f : Frame). f.low) c.root) i;
    high = (ap (λ (f : Frame). f.high) root ∙ ap (λ (f : Frame). f.high) c.root) i;
  };
  child = λ i. record n { low = ap (λ (f : Frame). f.low) child i; high = ap (λ (f : Frame). f.high) child i };
}
