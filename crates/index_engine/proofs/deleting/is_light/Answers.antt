use Rattle.std.proofs.Common.{◌≡◌, ℕ, ◌<◌, Some, subst}
use Rattle.std.specs.Prelude.{IsTrue}
use lib.Dec.{ltb}
use borrow.Author.Tests.{ltb-true}
use Rattle.index_page.specs.Loads.{load_of}
use Rattle.index_page.specs.Page.{PageRows}
use Rattle.forest_law.specs.declared.objects.Frame.{Frame}
use Rattle.tree_shrinking.specs.declared.TheConstants.{LIGHT_LOAD}
use Rattle.index_engine.specs.Traces.{HasLightPage}
use Rattle.index_engine.proofs.deleting.is_light.Goals as goal

-- a frame with a page of so small a load has a light one
has_light : (frame : Frame) (page : PageRows) → frame.page ≡ Some page → (n : ℕ)
    → n ≡ load_of page.rows → IsTrue (ltb n LIGHT_LOAD) → HasLightPage frame
has_light frame page paged n is less = record {
  page = page;
  paged = paged;
  light = subst (λ m. m < LIGHT_LOAD) is (ltb-true n LIGHT_LOAD less);
}

pub returns-in-Some : goal.returns-in-Some
returns-in-Some c = has_light c.args.frame.now c.in-Some.page c.in-Some.is c.load.result
    c.load.ensures
