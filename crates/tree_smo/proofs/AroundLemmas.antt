-- The page behind was given back after a split.
use Rattle.std.proofs.Common.{◌≡◌, ◌≢◌, ℕ, [], ◌∷◌, sym, ap, subst, ◌∙◌, arith, None}
use lib.ListN.{get_elem?}
use Rattle.latch_law.specs.declared.knows.Terms.{Terms}
use Rattle.latch_space.specs.Passes.{view}
use Rattle.index_law.specs.Shape.{Shape}
use Rattle.forest_law.specs.declared.objects.Frame.{Frame}
use Rattle.forest_law.specs.Numbers.{frame_id}
use Rattle.forest_world.specs.Held.{TreePass, shape_of_pass}
use Rattle.call_law.specs.Hands.{KnowsFrame, HoldsNoFrameBut}
use Rattle.call_law.specs.Spoken.{View, spoken}
use Rattle.call_law.specs.Trace.{AreGivenAt, fulls}
use Rattle.buffer_pool.specs.Calls.{DoesSilently, GetsNothing}
use Rattle.buffer_pool.specs.Frames.{GivesFrame}
use Rattle.buffer_pool.specs.NewPages.{FindsNoneFree}
use Rattle.buffer_pool.specs.Pages.{PagesIn}
use Rattle.buffer_pool.proofs.AddedLemmas.{frame_still}
use Rattle.buffer_pool.proofs.CallLemmas.{gave_frame}
use Rattle.tree_smo.specs.declared.plans.SplitPlan.{SplitPlan}
use Rattle.tree_smo.specs.Plans.{next_blocks, next_ids, plan_ids, SplitsBeside}
use Rattle.tree_smo.specs.Splitting.{SplitsChild}
use Rattle.tree_smo.proofs.BesideLemmas.{lacked_apart}
use Rattle.tree_smo.proofs.SilentLemmas.{does_weaker, around_added, does_around, among_around, said_around}
use Rattle.tree_smo.proofs.NextLemmas.{NextTaken, plan_with, other, does, before}

module _ (p : TreePass) (plan : SplitPlan) (n b : ℕ) (q : TreePass) (c : NextTaken p plan n b q)
    (r s : TreePass) (gave : GivesFrame r b s) where
  abbrev took : PagesIn p n b q
  took = c.took

  abbrev silent : DoesSilently p q (frame_id (shape_of_pass p) b ∷ [])
  silent = took.silently

  -- nothing was found, and the page behind was given back
  pub none_free : FindsNoneFree q plan.head.index r → FindsNoneFree p plan.head.index s
  none_free found = let f = found.full in
      let said = said_around p q r s b silent gave f.added in
      record {
        full = record {
          added = around_added p q r s b silent gave f.added;
          does = does_around p q r s b silent gave took.lacked (λ z. []) f.added
              (does_weaker q r [] (frame_id (shape_of_pass q) b ∷ []) (λ k a. tt) f.added
              f.does);
          given = subst (AreGivenAt plan.head.index (view p).low) (sym said)
              (subst (λ low. AreGivenAt plan.head.index low f.added.said)
              (does p plan n b q c).adds.numbers.low f.given);
          silent = ap spoken said ∙ f.silent;
          places = f.places;
          full = ap fulls said ∙ f.full;
          count = (let a = took.count in let b = f.count in let d = gave.count in
              omega (arith, a, b, d));
        };
        pool = found.pool;
        held = record {
          now = found.held.now;
          among = among_around p q r s b silent gave _ f.added found.held.among;
        };
        none = found.none;
        same = found.same;
      }

  pub nothing : GetsNothing q r → GetsNothing p s
  nothing got = let f = got.silently in record {
    silently = record {
      added = around_added p q r s b silent gave f.added;
      does = does_around p q r s b silent gave took.lacked (λ z. []) f.added
          (does_weaker q r [] (frame_id (shape_of_pass q) b ∷ []) (λ k a. tt) f.added f.does);
      silent = said_around p q r s b silent gave f.added ∙ f.silent;
    };
    count = (let a = took.count in let b = got.count in let d = gave.count in
        omega (arith, a, b, d));
  }

  -- the split was made, and the page behind was given back
  pub splits_child : (right : ℕ) → SplitsBeside q (plan_with plan b) right r
      → SplitsChild p plan.parent plan.child plan.head.index right s
  splits_child right made =
      let back = gave_frame r s made.silently.does.known b gave in
      let ne = lacked_apart (view q) b right took.frame took.knows made.lacked in
      let up = other p plan n b q c plan.parent c.can.up c.can.knows_up in
      let low = other p plan n b q c plan.child c.can.low c.can.knows_low in
      let can' = made.splits.was.can in
      let after : (a : ℕ) (f : Frame) → b ≢ a → KnowsFrame (view r) a f
      → KnowsFrame (view s) a f = λ a f differ knows. frame_still (view r) (view s)
      (frame_id (shape_of_pass r) b ∷ []) back.adds.numbers back.rest a
      (λ z. differ (omega (arith, z)), tt) f knows in
      record {
        silently = record {
          added = around_added p q r s b silent gave made.silently.added;
          does = does_around p q r s b silent gave took.lacked
              (λ shape. frame_id shape plan.parent ∷ frame_id shape plan.child
              ∷ frame_id shape right ∷ []) made.silently.added
              (does_weaker q r (plan_ids (shape_of_pass q) (plan_with plan b) right)
              (frame_id (shape_of_pass q) b ∷ frame_id (shape_of_pass q) plan.parent
              ∷ frame_id (shape_of_pass q) plan.child ∷ frame_id (shape_of_pass q) right
              ∷ [])
              (λ k a. (a.1.0, (a.1.1.0, (a.1.1.1.0, (a.0, tt))))) made.silently.added
              made.silently.does);
          silent = said_around p q r s b silent gave made.silently.added
              ∙ made.silently.silent;
        };
        was = record {
          level = can'.level;
          up = can'.up;
          low = can'.low;
          knows_up = before p plan n b q c plan.parent can'.up up can'.knows_up;
          knows_low = before p plan n b q c plan.child can'.low low can'.knows_low;
          above = can'.above;
          below = can'.below;
          points = can'.points;
          room = can'.room;
          two = can'.two;
          full = can'.full;
        };
        lacked = sym ((does p plan n b q c).rest (frame_id (shape_of_pass p) right)
            (λ z. ne (omega (arith, z)), tt))
            ∙ (ap (λ (t : Terms Shape). get_elem? (view q).held (frame_id t.shape right))
            (sym (does p plan n b q c).adds.numbers.terms) ∙ made.lacked);
        at = plan.cut.key.tuple;
        head = plan.head;
        fresh = made.splits.fresh;
        number = made.splits.number;
        blank = made.splits.blank;
        up = made.splits.now.up;
        left = made.splits.now.left;
        new = made.splits.now.right;
        knows_up = after plan.parent made.splits.now.up up made.splits.knows.up;
        knows_left = after plan.child made.splits.now.left low made.splits.knows.left;
        knows_new = after right made.splits.now.right ne made.splits.knows.right;
        cuts = made.splits.cuts;
        pointer = made.splits.pointer;
        count = (let a = took.count in let b = made.count in let d = gave.count in
            omega (arith, a, b, d));
      }

-- the split was made where no page is behind
pub splits_last : (p q : TreePass) (plan : SplitPlan) → plan.next ≡ None → (right : ℕ)
    → SplitsBeside p plan right q → SplitsChild p plan.parent plan.child plan.head.index right q
splits_last p q plan e right made = record {
  silently = subst (λ o. DoesSilently p q (frame_id (shape_of_pass p) plan.parent
      ∷ frame_id (shape_of_pass p) plan.child ∷ frame_id (shape_of_pass p) right
      ∷ next_ids (shape_of_pass p) o)) e made.silently;
  was = made.splits.was.can;
  lacked = made.lacked;
  at = plan.cut.key.tuple;
  head = plan.head;
  fresh = made.splits.fresh;
  number = made.splits.number;
  blank = made.splits.blank;
  up = made.splits.now.up;
  left = made.splits.now.left;
  new = made.splits.now.right;
  knows_up = made.splits.knows.up;
  knows_left = made.splits.knows.left;
  knows_new = made.splits.knows.right;
  cuts = made.splits.cuts;
  pointer = made.splits.pointer;
  count = made.count;
}

-- the pass holds no other frame
pub frames_last : (v : View) (plan : SplitPlan)
    → HoldsNoFrameBut v (plan.parent ∷ plan.child ∷ [])
    → HoldsNoFrameBut v (plan.parent ∷ plan.child ∷ next_blocks plan.next)
frames_last v plan only c below apart = only c below (apart.0, (apart.1.0, tt))
