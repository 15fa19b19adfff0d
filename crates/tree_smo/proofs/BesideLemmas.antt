-- A new page is held besides, or was given back.
use Rattle.std.proofs.Common.{◌≡◌, ◌≢◌, ℕ, ◌<◌, [], ◌∷◌, sym, ap, subst, ◌∙◌, refl, arith, Option, Some, None, Result, Ok, Err}
use mathlib.Core.Option.{some}
use lib.ListN.{get_elem?}
use Rattle.list_facts.proofs.Places.{none_is_not, same_some}
use Rattle.latch_law.specs.declared.knows.Terms.{Terms}
use Rattle.latch_law.specs.Views.{holding}
use Rattle.latch_space.specs.Passes.{view}
use Rattle.index_page.specs.declared.head.PageHead.{PageHead}
use Rattle.index_law.specs.Shape.{Shape}
use Rattle.forest_law.specs.declared.objects.Frame.{Frame}
use Rattle.forest_law.specs.declared.objects.Object.TheVariants as object
use Rattle.forest_law.specs.FramePages.{TellsPage}
use Rattle.forest_law.specs.Law.{IsLawful}
use Rattle.forest_law.specs.Numbers.{frame_id}
use Rattle.forest_law.specs.State.{ForestState, fields_for}
use Rattle.forest_world.specs.Held.{TreePass, shape_of_pass}
use Rattle.call_law.specs.Hands.{KnowsFrame, HoldsNoTable}
use Rattle.call_law.specs.Spoken.{View}
use Rattle.call_law.proofs.TableLemmas.{table_no_frame, tables_lacked}
use Rattle.buffer_pool.specs.declared.error.PoolError.{PoolError}
use Rattle.buffer_pool.specs.declared.error.PoolError.TheVariants as refused
use Rattle.buffer_pool.specs.Calls.{DoesSilently, GetsNothing}
use Rattle.buffer_pool.specs.Forests.{FitsTrees}
use Rattle.buffer_pool.specs.NewPages.{outside_page, GetsPage, HoldsOutsidePage, FreesPage}
use Rattle.buffer_pool.proofs.AddedLemmas.{frame_still, frame_before}
use Rattle.buffer_pool.proofs.CallLemmas.{silently_both, does_again}
use Rattle.tree_smo.specs.declared.plans.SplitPlan.{SplitPlan}
use Rattle.tree_smo.specs.Plans.{HoldsNext, HoldsPlan, plan_ids, MakesSplit, SplitsBeside}
use Rattle.tree_smo.proofs.LawfulLemmas.{known_tells}
use Rattle.tree_smo.proofs.SilentLemmas.{silently_weaker, does_shape}

-- a frame that is known is held
pub known_held : (v : View) (b : ℕ) (f : Frame) → KnowsFrame v b f
    → get_elem? v.held (frame_id v.terms.shape b) ≡ some None → ⊥
known_held v b f knows lacks = none_is_not (holding knows.0 (object.Frame f)) (sym lacks ∙ knows.1)

-- so a block whose frame is lacked is another than one whose frame is known
pub lacked_apart : (v : View) (b n : ℕ) (f : Frame) → KnowsFrame v b f
    → get_elem? v.held (frame_id v.terms.shape n) ≡ some None → b ≢ n
lacked_apart v b n f knows lacks e = known_held v b f knows
    (ap (λ k. get_elem? v.held (frame_id v.terms.shape k)) e ∙ lacks)

-- a plan that is held by one view is held by another that knows the same frames
unfoldable pub plan_moves : (v v' : View) (plan : SplitPlan) (h : HoldsPlan v plan)
    → (KnowsFrame v plan.parent h.can.up → KnowsFrame v' plan.parent h.can.up)
    → (KnowsFrame v plan.child h.can.low → KnowsFrame v' plan.child h.can.low)
    → ((b : ℕ) (f : Frame) → plan.next ≡ Some b → KnowsFrame v b f → KnowsFrame v' b f)
    → HoldsPlan v' plan
plan_moves v v' plan h up low next = record {
  can = record {
    level = h.can.level;
    up = h.can.up;
    low = h.can.low;
    knows_up = up h.can.knows_up;
    knows_low = low h.can.knows_low;
    above = h.can.above;
    below = h.can.below;
    points = h.can.points;
    room = h.can.room;
    two = h.can.two;
    full = h.can.full;
  };
  is = h.is;
  next = go plan.next refl h.next;
}
  where
    go : (o : Option ℕ) → plan.next ≡ o
        → HoldsNext v plan.head.index h.can.level o plan.head.next
        → HoldsNext v' plan.head.index h.can.level o plan.head.next
    go None e held = held
    go (Some b) e held = (held.0, next b held.0 e held.1, held.2, held.3)

-- what a lawful state tells of a page that is to be split
module _ (p : TreePass) (w : ForestState) (law : IsLawful w) (fits : FitsTrees w (view p))
    (plan : SplitPlan) (h : HoldsPlan (view p) plan) where
  tells : TellsPage w h.can.low h.can.below.page
  tells = known_tells w law (view p) fits plan.child h.can.low h.can.below.page h.can.knows_low
      h.can.below.paged

  pub index_below : plan.head.index < (shape_of_pass p).indexes
  index_below = subst (λ i. i < (shape_of_pass p).indexes) h.can.below.index
      (subst (λ (s : Shape). h.can.below.page.head.index < s.indexes) fits.shape
      (tells.sound h.can.below.tree).index)

  pub fields_are : plan.head.fields ≡ fields_for (shape_of_pass p) plan.head.index
  fields_are = ap (λ (z : PageHead). z.fields) (h.is.head h.can.below.page h.can.below.paged)
      ∙ (tells.order.fields
      ∙ ((λ i. fields_for (fits.shape i) h.can.below.page.head.index)
      ∙ ap (fields_for (shape_of_pass p)) h.can.below.index))

module _ (p q : TreePass) (head : PageHead) (b : ℕ) (got : GetsPage p head b q) where
  -- what was known is known beside the new page
  pub still_known : (c : ℕ) (f : Frame) → KnowsFrame (view p) c f → KnowsFrame (view q) c f
  still_known c f knows = frame_still (view p) (view q) (frame_id (shape_of_pass p) b ∷ [])
      got.silently.does.adds.numbers got.silently.does.rest c
      (λ e. lacked_apart (view p) c b f knows got.lacked (omega (arith, e)), tt) f knows

  pub known_before : (c : ℕ) (f : Frame) → c ≢ b → KnowsFrame (view q) c f
      → KnowsFrame (view p) c f
  known_before c f ne knows = frame_before (view p) (view q) (frame_id (shape_of_pass p) b ∷ [])
      got.silently.does.adds.numbers got.silently.does.rest c
      (λ e. ne (omega (arith, e)), tt) f knows

  pub plan_still : (plan : SplitPlan) → HoldsPlan (view p) plan → HoldsPlan (view q) plan
  plan_still plan h = plan_moves (view p) (view q) plan h (still_known plan.parent h.can.up)
      (still_known plan.child h.can.low) (λ m f e. still_known m f)

  here : shape_of_pass q ≡ shape_of_pass p
  here = does_shape p q (frame_id (shape_of_pass p) b ∷ []) got.silently.added got.silently.does

  -- the new page's frame is held, where nothing was got since
  pub holds_outside : (r : TreePass) → GetsNothing q r → HoldsOutsidePage (view r) b
  holds_outside r same = search (frame_still (view q) (view r) [] same.silently.does.adds.numbers same.silently.does.rest b tt got.frame got.knows, outside_page head got.number)

  -- and neither the pool nor a partition is
  pub no_table : HoldsNoTable (view p) → HoldsNoTable (view q)
  no_table = tables_lacked (view p) (view q)
      (ap (λ (t : Terms Shape). t.shape) got.silently.does.adds.numbers.terms)
      (λ k table lacks. got.silently.does.rest k (table_no_frame (shape_of_pass p) k b table, tt)
      ∙ lacks)

  pub still_no_table : (r : TreePass) → GetsNothing q r → HoldsNoTable (view p)
      → HoldsNoTable (view r)
  still_no_table r same lacks = tables_lacked (view q) (view r)
      (ap (λ (t : Terms Shape). t.shape) same.silently.does.adds.numbers.terms)
      (λ k table lacks. same.silently.does.rest k tt ∙ lacks) (no_table lacks)

  -- the split was made
  module _ (r : TreePass) (plan : SplitPlan) (is : plan.head ≡ head) (h : HoldsPlan (view p) plan)
      (makes : MakesSplit q plan b r) where
    pub splits_beside : SplitsBeside p plan b r
    unfolding plan_moves
    splits_beside = record {
      silently = silently_both p q r (plan_ids (shape_of_pass p) plan b)
          (silently_weaker p q (frame_id (shape_of_pass p) b ∷ [])
          (plan_ids (shape_of_pass p) plan b) (λ k apart. (apart.1.1.0, tt)) got.silently)
          (subst (λ (s : Shape). DoesSilently q r (plan_ids s plan b)) here makes.silently);
      lacked = got.lacked;
      splits = record {
        was = plan_moves (view q) (view p) plan makes.splits.was
            (known_before plan.parent makes.splits.was.can.up
            (lacked_apart (view p) plan.parent b h.can.up h.can.knows_up got.lacked))
            (known_before plan.child makes.splits.was.can.low
            (lacked_apart (view p) plan.child b h.can.low h.can.knows_low got.lacked))
            (λ m f e. known_before m f (next_apart plan.next h.next m e));
        fresh = makes.splits.fresh;
        number = makes.splits.number;
        blank = makes.splits.blank;
        now = makes.splits.now;
        knows = makes.splits.knows;
        cuts = makes.splits.cuts;
        pointer = makes.splits.pointer;
        next = makes.splits.next;
      };
      count = makes.count ∙ got.count;
    }
      where
        next_apart : (o : Option ℕ)
            → HoldsNext (view p) plan.head.index h.can.level o plan.head.next → (m : ℕ)
            → o ≡ Some m → m ≢ b
        next_apart None held m e = absurd cc
        next_apart (Some k) held m e = subst (λ z. z ≢ b) (same_some k m e)
            (lacked_apart (view p) k b held.0 held.1 got.lacked)

  -- the page was given back
  pub gets_nothing : (r s : TreePass) → GetsNothing q r → FreesPage r b s → GetsNothing p s
  gets_nothing r s same frees =
      let k = frame_id (shape_of_pass p) b in
      let shape : shape_of_pass r ≡ shape_of_pass p =
      does_shape q r [] same.silently.added same.silently.does ∙ here in
      let all = silently_both p q s (k ∷ []) got.silently
      (silently_both q r s (k ∷ [])
      (silently_weaker q r [] (k ∷ []) (λ j apart. tt) same.silently)
      (subst (λ (z : Shape). DoesSilently r s (frame_id z b ∷ [])) shape frees.silently)) in
      record {
        silently = record {
          added = all.added;
          does = does_again p s all.added k [] all.does
              (ap (λ (z : Shape). get_elem? (view s).held (frame_id z b))
              (sym (does_shape p s (k ∷ []) all.added all.does)) ∙ (frees.lacks ∙ sym got.lacked));
          silent = all.silent;
        };
        count = (let a = got.count in let b = same.count in let c = frees.count in
            omega (arith, a, b, c));
      }

-- a want of memory is not a full space
pub memory_not_full : (r : Result ℕ PoolError) → r ≡ Err refused.NoMemory
    → r ≡ Err refused.SpaceFull → ⊥
memory_not_full r memory full = absurd cc

-- and the number of a new page is no refusal
pub page_not_refused : (n : ℕ) (e : PoolError) → Ok n ≡ Err e → ⊥
page_not_refused n e is = absurd cc
