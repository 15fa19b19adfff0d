-- The page behind is held while a split is made.
use Rattle.std.proofs.Common.{◌≡◌, ◌≢◌, ℕ, ◌<◌, [], ◌∷◌, inl, inr, sym, ap, subst, ◌∙◌, refl, arith, Some, None, Ok, Err}
use Rattle.std.specs.Prelude.{IfOk}
use Rattle.std.specs.declared.result.Result.{Result}
use Rattle.std.proofs.lemmas.Bool.{cases_eq}
use lib.ListN.{get_elem?}
use Rattle.latch_law.specs.declared.knows.Terms.{Terms}
use Rattle.latch_space.specs.Passes.{view}
use Rattle.index_page.specs.declared.head.PageHead.{PageHead}
use Rattle.index_page.specs.Page.{PageRows}
use Rattle.tree_law.specs.Pages.{Page, is_own}
use Rattle.index_law.specs.Shape.{Shape}
use Rattle.forest_law.specs.declared.objects.Frame.{Frame}
use Rattle.forest_law.specs.declared.objects.Object.TheVariants as object
use Rattle.forest_law.specs.Law.{IsLawful}
use Rattle.forest_law.specs.Numbers.{frame_id, frames_of}
use Rattle.forest_law.specs.State.{ForestState}
use Rattle.forest_world.specs.Held.{TreePass, shape_of_pass}
use Rattle.tree_facts.specs.Neighbours.{HasNextPage}
use Rattle.tree_facts.proofs.NeighbourLemmas.{next_pages_fit}
use Rattle.call_law.specs.Hands.{KnowsFrame, HoldsNoFrameBut, HoldsNoTable}
use Rattle.call_law.specs.Spoken.{View}
use Rattle.call_law.proofs.TableLemmas.{table_no_frame, tables_lacked}
use Rattle.buffer_pool.specs.declared.error.PoolError.{PoolError}
use Rattle.buffer_pool.specs.declared.error.PoolError.TheVariants as refused
use Rattle.buffer_pool.specs.Calls.{Does, GetsNothing}
use Rattle.buffer_pool.specs.Forests.{FitsTrees, IsFittedTree}
use Rattle.buffer_pool.specs.Hands.{MayGiveBack}
use Rattle.buffer_pool.specs.NewPages.{FindsNoneFree}
use Rattle.buffer_pool.specs.Pages.{IsLive, HoldsOtherPages, PagesIn, HasTreePage}
use Rattle.buffer_pool.proofs.AddedLemmas.{frame_still, frame_before}
use Rattle.buffer_pool.proofs.CallLemmas.{frame_has}
use Rattle.buffer_pool.proofs.SpaceLemmas.{known_below}
use Rattle.tree_smo.specs.declared.plans.SplitPlan.{SplitPlan}
use Rattle.tree_smo.specs.Plans.{IsPlanOf, HoldsNext, HoldsPlan, SplitsBeside}
use Rattle.tree_smo.specs.Splitting.{CanSplit}
use Rattle.tree_smo.proofs.BesideLemmas.{known_held, lacked_apart}
use Rattle.tree_smo.proofs.LawfulLemmas.{one_page, tree_frame, known_page}

module _ (p : TreePass) (plan : SplitPlan)
    (can : CanSplit (view p) plan.parent plan.child plan.head.index)
    (is : IsPlanOf can.low plan) where
  -- no page is behind: the plan is held
  pub plan_last : plan.next ≡ None → plan.head.next ≡ None → HoldsPlan (view p) plan
  plan_last none e = record {
    can = can;
    is = is;
    next = subst (λ o. HoldsNext (view p) plan.head.index can.level o plan.head.next) (sym none) e;
  }

  -- the page behind, in any lawful state in which the child's frame is known as it is
  pub behind : (w : ForestState) → IsLawful w → (v : View) → FitsTrees w v
      → KnowsFrame v plan.child can.low → (n : ℕ) → plan.head.next ≡ Some n
      → HasNextPage w can.low can.below.page n
  behind w law v fits knows n e = next_pages_fit w law plan.child can.low can.below.page
      (tree_frame w law v fits plan.child plan.head.index can.level can.low knows can.below) n
      (ap (λ (z : PageHead). z.next) (sym (is.head can.below.page can.below.paged)) ∙ e)

  module _ (n : ℕ) (e : plan.head.next ≡ Some n) where
    pub next_live : IsLive (view p) n
    next_live w law fits = let b = behind w law (view p) fits can.knows_low n e in (b.after, b.at)

    -- it is another page than both in hand: the parent's is on another level
    module _ (w : ForestState) (law : IsLawful w) (fits : FitsTrees w (view p)) where
      here : HasNextPage w can.low can.below.page n
      here = behind w law (view p) fits can.knows_low n e

      not_parent : can.above.page.head.number ≢ n
      not_parent z =
          let same = ap (λ (q : Page). q.level) (known_page w law (view p) fits plan.parent can.up
          can.above.page can.knows_up can.above.paged n here.after z here.at) in
          let level = here.level in
          let low = can.below.at_level in
          let high = can.above.at_level in
          omega (arith, same, level, low, high)

      not_child : can.below.page.head.number ≢ n
      not_child z = here.other (sym z)

      -- and no other frame is held
      pub next_other : HoldsNoFrameBut (view p) (plan.parent ∷ plan.child ∷ [])
          → (view p).terms.objects ≡ frame_id (shape_of_pass p) (frames_of (shape_of_pass p))
          → HoldsOtherPages (view p) n
      next_other only objects b f page knows paged = elim (cases_eq b plan.parent) [
        | inl same ↦ subst (λ (x : PageRows). x.head.number ≢ n)
            (one_page (view p) plan.parent b can.up f can.above.page page can.knows_up knows
            (sym same) can.above.paged paged) not_parent
        | inr up ↦ elim (cases_eq b plan.child) [
          | inl same ↦ subst (λ (x : PageRows). x.head.number ≢ n)
              (one_page (view p) plan.child b can.low f can.below.page page can.knows_low knows
              (sym same) can.below.paged paged) not_child
          | inr low ↦ absurd (known_held (view p) b f knows (only b
              (known_below p b knows.0 (object.Frame f) knows.1 objects) (up, (low, tt))))
        ]
      ]

-- what is known once the page behind was taken, in the frame of the block b
pub record NextTaken (p : TreePass) (plan : SplitPlan) (n b : ℕ) (q : TreePass) : Type 0 where
  pub can : CanSplit (view p) plan.parent plan.child plan.head.index
  pub is : IsPlanOf can.low plan
  pub next : plan.head.next ≡ Some n
  pub took : PagesIn p n b q
  pub fitted : IsFittedTree (view q)

abbrev pub next_taken : (p : TreePass) (plan : SplitPlan) (n b : ℕ) (q : TreePass)
    → (can : CanSplit (view p) plan.parent plan.child plan.head.index) × IsPlanOf can.low plan
    → plan.head.next ≡ Some n → PagesIn p n b q → IsFittedTree (view q) → NextTaken p plan n b q
next_taken p plan n b q held next took fitted = search (next, took, fitted)

-- the plan, with the block of the page behind
abbrev pub plan_with : SplitPlan → ℕ → SplitPlan
plan_with plan b = record plan { next = Some b }

module _ (p : TreePass) (plan : SplitPlan) (n b : ℕ) (q : TreePass)
    (c : NextTaken p plan n b q) where
  abbrev can : CanSplit (view p) plan.parent plan.child plan.head.index
  can = c.can

  abbrev took : PagesIn p n b q
  took = c.took

  abbrev pub does : Does p q (frame_id (shape_of_pass p) b ∷ []) took.silently.added
  does = took.silently.does

  -- the block of a frame that is known is another one
  pub other : (a : ℕ) (f : Frame) → KnowsFrame (view p) a f → b ≢ a
  other a f knows e = lacked_apart (view p) a b f knows took.lacked (sym e)

  still : (a : ℕ) (f : Frame) → KnowsFrame (view p) a f → KnowsFrame (view q) a f
  still a f knows = frame_still (view p) (view q) (frame_id (shape_of_pass p) b ∷ [])
      does.adds.numbers does.rest a (λ z. other a f knows (omega (arith, z)), tt) f knows

  pub before : (a : ℕ) (f : Frame) → b ≢ a → KnowsFrame (view q) a f → KnowsFrame (view p) a f
  before a f ne knows = frame_before (view p) (view q) (frame_id (shape_of_pass p) b ∷ [])
      does.adds.numbers does.rest a (λ z. ne (omega (arith, z)), tt) f knows

  abbrev page : PageRows
  page = took.has.page

  -- it is one of the trees, of the child's level
  tree_page : HasTreePage took.frame plan.head.index can.level
  tree_page = let w = c.fitted.whole in
      let law = c.fitted.is_lawful in
      let fits = c.fitted.fits in
      let a = behind p plan can c.is w law (view q) fits
      (still plan.child can.low can.knows_low) n c.next in
      let same = known_page w law (view q) fits b took.frame page took.knows took.has.paged n
      a.after took.has.number a.at in
      record {
        page = page;
        paged = took.has.paged;
        tree = ap (λ m. is_own m page.head.prev) took.has.number
            ∙ (ap (λ (z : Page). is_own n z.prev) same ∙ a.tree);
        index = ap (λ (z : Page). z.index) same ∙ (a.index ∙ can.below.index);
        at_level = ap (λ (z : Page). z.level) same ∙ (a.level ∙ can.below.at_level);
      }

  -- so the plan is held
  pub plan_held : HoldsPlan (view q) (plan_with plan b)
  unfolding tree_page
  plan_held = record {
    can = record {
      level = can.level;
      up = can.up;
      low = can.low;
      knows_up = still plan.parent can.up can.knows_up;
      knows_low = still plan.child can.low can.knows_low;
      above = can.above;
      below = can.below;
      points = can.points;
      room = can.room;
      two = can.two;
      full = can.full;
    };
    is = assumption;
    next = (took.frame, took.knows, tree_page, c.next ∙ ap Some (sym took.has.number));
  }

  pub frames_held : HoldsNoFrameBut (view p) (plan.parent ∷ plan.child ∷ [])
      → HoldsNoFrameBut (view q) (plan.parent ∷ plan.child ∷ b ∷ [])
  frames_held only a below apart =
      ap (λ (t : Terms Shape). get_elem? (view q).held (frame_id t.shape a)) does.adds.numbers.terms
      ∙ (does.rest (frame_id (shape_of_pass p) a) (λ z. apart.1.1.0 (omega (arith, z)), tt)
      ∙ only a (subst (λ (t : Terms Shape). a < frames_of t.shape) does.adds.numbers.terms below)
      (apart.0, (apart.1.0, tt)))

  pub tables_still : HoldsNoTable (view p) → HoldsNoTable (view q)
  tables_still = tables_lacked (view p) (view q) (ap (λ (t : Terms Shape). t.shape) does.adds.numbers.terms)
      (λ k table lacks. does.rest k (table_no_frame (shape_of_pass p) k b table, tt) ∙ lacks)

  module _ (r : TreePass) where
    -- the page behind is still held after the split, however that ended
    pub next_held : (made : Result ℕ PoolError)
        → IfOk made (λ right. SplitsBeside q (plan_with plan b) right r)
        → (made ≡ Err refused.SpaceFull → FindsNoneFree q plan.head.index r)
        → (made ≡ Err refused.NoMemory → GetsNothing q r) → MayGiveBack r b
    next_held (Ok right) ok full memory = let has = ok.splits.next in
        (has.0, frame_has r ok.silently.does.known b has.0 has.1, has.2)
    next_held (Err refused.SpaceFull) ok full memory = let d = (full refl).full.does in (
      took.frame,
      frame_has r d.known b took.frame (frame_still (view q) (view r) []
          d.adds.numbers d.rest b tt took.frame took.knows),
      took.inside,
    )
    next_held (Err refused.NoMemory) ok full memory = let d = (memory refl).silently.does in (
      took.frame,
      frame_has r d.known b took.frame (frame_still (view q) (view r) []
          d.adds.numbers d.rest b tt took.frame took.knows),
      took.inside,
    )
