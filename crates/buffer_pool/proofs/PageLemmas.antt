-- What fits where less is known, and what is lacked.
use Rattle.std.proofs.Common.{◌≡◌, ℕ, ◌<◌, List, subst, arith, Option, Some, None, sym, ap, ◌∙◌}
use mathlib.Core.Option.{some}
use lib.ListN.{get_elem?}
use Rattle.list_facts.proofs.Places.{there, same_some}
use Rattle.latch_law.specs.declared.knows.Holding.{Holding}
use Rattle.latch_law.specs.declared.knows.Refusal.{Refusal}
use Rattle.latch_law.specs.Rule.{Holds}
use Rattle.latch_law.specs.Views.{with_refused}
use Rattle.latch_space.specs.Passes.{view, Lacks}
use Rattle.index_page.specs.Page.{PageRows}
use Rattle.tree_law.specs.Pages.{is_own}
use Rattle.index_law.specs.Shape.{Shape}
use Rattle.forest_law.specs.declared.objects.Frame.{Frame}
use Rattle.forest_law.specs.declared.objects.Object.{Object}
use Rattle.forest_law.specs.Outside.{HasNoOutside}
use Rattle.forest_law.specs.State.{ForestState}
use Rattle.forest_law.proofs.FramePageLemmas.{number_below}
use Rattle.forest_world.specs.Held.{TreePass, shape_of_pass}
use Rattle.buffer_pool.specs.Forests.{TreeView, FitsTrees, IsFittedTree}
use Rattle.buffer_pool.specs.Pages.{IsLive, HasTreePage}

-- what is so where more tries were refused is so where fewer were
pub fits_before : (w : ForestState) (v : TreeView) (fs : List (Refusal Object))
    → FitsTrees w (with_refused v fs) → FitsTrees w v
fits_before w v fs f = assumption

-- what isn't known of an object that is there is lacked
module _ (p : TreePass) (k : ℕ) (below : k < (view p).terms.objects) where
  pub lacks_if : ((h : Holding Object) → Holds (view p) k h → ⊥) → Lacks p k
  lacks_if never = let all = p.all in
      let a = there (view p).held k (omega (arith, below, all.0)) in pick a.0 a.1
    where
      pick : (o : Option (Holding Object)) → get_elem? (view p).held k ≡ some o → Lacks p k
      pick (Some h) e = absurd (never h e)
      pick None e = e

-- a page that is there has one of the numbers of pages
pub live_below : (p : TreePass) (n : ℕ) → IsFittedTree (view p) → IsLive (view p) n
    → n < (shape_of_pass p).pages
live_below p n fitted live =
    let page = live fitted.whole fitted.is_lawful fitted.fits in
    subst (λ (s : Shape). n < s.pages) fitted.fits.shape
    (number_below fitted.whole fitted.is_lawful n page.0 page.1)

-- a frame with a page of the trees has none outside them
pub tree_page_inside : (f : Frame) (i level : ℕ) → HasTreePage f i level → HasNoOutside f
tree_page_inside f i level has page is =
    ap (λ (z : PageRows). is_own z.head.number z.head.prev)
    (same_some page has.page (sym is ∙ has.paged)) ∙ has.tree
