-- Who holds frames of pages of the trees alone has no page outside the trees in hand.
use Rattle.std.proofs.Common.{◌≡◌, ◌≢◌, ℕ, suc, true, List, [], ◌∷◌, inl, inr, sym, ap, subst, ◌∙◌, Option, Some, None}
use Rattle.std.proofs.lemmas.Bool.{cases_eq, ne_eqb}
use Rattle.std.specs.List.{AllByRecursion}
use mathlib.Core.Option.{some}
use lib.ListN.{get_elem?}
use Rattle.list_facts.proofs.Places.{same_some}
use Rattle.latch_law.specs.Views.{knowns, holding}
use Rattle.latch_law.proofs.Lists.{known_back}
use Rattle.latch_space.specs.Passes.{view}
use Rattle.index_page.specs.declared.head.PageHead.{PageHead}
use Rattle.index_page.specs.Page.{PageRows}
use Rattle.tree_law.specs.Pages.{Page, is_own}
use Rattle.forest_law.specs.declared.objects.Frame.{Frame}
use Rattle.forest_law.specs.declared.objects.Object.{Object}
use Rattle.forest_law.specs.declared.objects.Object.TheVariants as object
use Rattle.forest_law.specs.Numbers.{frame_id, frames_of}
use Rattle.forest_law.specs.Outside.{HasNoOutside}
use Rattle.forest_law.specs.State.{page_within}
use Rattle.forest_law.specs.Turns.{HasPage}
use Rattle.forest_world.specs.Held.{TreePass, shape_of_pass}
use Rattle.tree_restructure.specs.Links.{Relinks}
use Rattle.tree_restructure.proofs.FrameLemmas.{in_frame}
use Rattle.call_law.specs.Hands.{KnowsFrame, HoldsNoFrameBut, HoldsNoOutside}
use Rattle.call_law.specs.Spoken.{View}
use Rattle.buffer_pool.specs.Pages.{HasTreePage}
use Rattle.buffer_pool.proofs.SpaceLemmas.{known_below}
use Rattle.buffer_pool.proofs.PageLemmas.{tree_page_inside}
use Rattle.tree_smo.specs.declared.plans.SplitPlan.{SplitPlan}
use Rattle.tree_smo.specs.Plans.{HoldsNext, HoldsPlan, next_blocks}
use Rattle.tree_smo.proofs.LawfulLemmas.{one_frame}
use Rattle.tree_smo.proofs.BesideLemmas.{known_held}

-- the block's frame is known to have no page outside the trees
abbrev pub KnowsInside : View → ℕ → Type 0
KnowsInside v b = (f : Frame) × KnowsFrame v b f × HasNoOutside f

-- so it is with a page of the trees
pub knows_inside : (v : View) (b i level : ℕ) (f : Frame) → KnowsFrame v b f
    → HasTreePage f i level → KnowsInside v b
knows_inside v b i level f knows tree = (f, knows, tree_page_inside f i level tree)

-- a page that gets another left neighbour than itself is none outside the trees
pub relinked_inside : (right : ℕ) (f g : Frame) (r : Relinks right f g)
    → right ≢ r.page.head.number → HasNoOutside g
relinked_inside right f g r apart page has =
    let same : page ≡ r.new = same_some page r.new
    (sym has ∙ ap (λ (x : Frame). x.page) r.kept) in
    let head = ap (λ (x : PageRows). x.head) same ∙ r.head in
    ap (λ (h : PageHead). is_own h.number h.prev) head ∙ ne_eqb right r.page.head.number apart

-- a frame whose page is none outside the trees has none outside them
outside_in : (f : Frame) (n : ℕ) (page : Page) → HasNoOutside f → HasPage f n page
    → is_own n page.prev ≢ true
outside_in f n page inside has own =
    let rows = has.rows in
    let is : page_within rows f.low f.high ≡ page =
    same_some (page_within rows f.low f.high) page (sym (in_frame f rows has.paged) ∙ has.is) in
    let prev = ap (λ (x : Page). x.prev) is in
    let number = has.number in
    let not = inside rows has.paged in absurd cc

-- what is known of an object in hand that is a frame
knows_in_hand : (v : View) (b : ℕ) (f : Frame)
    → get_elem? (knowns v.held) (frame_id v.terms.shape b) ≡ some (Some (object.Frame f))
    → KnowsFrame v b f
knows_in_hand v b f is =
    let h = known_back v.held (frame_id v.terms.shape b) (object.Frame f) is in
    (h.0.taken, h.1 ∙ ap (λ (x : Object). some (Some (holding h.0.taken x))) h.2)

-- one of these blocks' frames is known to have no page outside the trees
inside_of : (v : View) (bs : List ℕ) → AllByRecursion (KnowsInside v) bs → (b : ℕ) (f : Frame)
    → KnowsFrame v b f → (AllByRecursion (λ (c : ℕ). b ≢ c) bs → ⊥) → HasNoOutside f
inside_of v [] each b f knows among = absurd (among tt)
inside_of v (c ∷ bs) each b f knows among = elim (cases_eq b c) [
  | inl same ↦ subst HasNoOutside (sym (one_frame v b c f each.0.0 knows each.0.1 same)) each.0.2
  | inr other ↦ inside_of v bs each.1 b f knows (λ apart. among (other, apart))
]

-- who holds no frames but those has none outside
pub none_outside_but : (p : TreePass) (bs : List ℕ)
    → (view p).terms.objects ≡ frame_id (shape_of_pass p) (frames_of (shape_of_pass p))
    → HoldsNoFrameBut (view p) bs → AllByRecursion (KnowsInside (view p)) bs
    → HoldsNoOutside (view p)
none_outside_but p bs objects only each n o =
    let f = o.hand.frame in
    let knows = knows_in_hand (view p) o.block f o.hand.at in
    let inside = inside_of (view p) bs each o.block f knows
    (λ apart. known_held (view p) o.block f knows
    (only o.block (known_below p o.block knows.0 (object.Frame f) knows.1 objects) apart)) in
    outside_in f n o.page inside o.hand.has o.own

-- what a planned split changes has none outside but the right half
pub plan_inside : (v : View) (plan : SplitPlan) → HoldsPlan v plan
    → AllByRecursion (KnowsInside v) (plan.parent ∷ plan.child ∷ next_blocks plan.next)
plan_inside v plan h = (
  knows_inside v plan.parent plan.head.index (suc h.can.level) h.can.up h.can.knows_up h.can.above,
  (
    knows_inside v plan.child plan.head.index h.can.level h.can.low h.can.knows_low h.can.below,
    go plan.next h.next,
  ),
)
  where
    go : (o : Option ℕ) → HoldsNext v plan.head.index h.can.level o plan.head.next
        → AllByRecursion (KnowsInside v) (next_blocks o)
    go None held = tt
    go (Some b) held =
        (knows_inside v b plan.head.index h.can.level held.0 held.1 held.2, tt)
