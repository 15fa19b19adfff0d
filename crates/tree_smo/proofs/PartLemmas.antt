-- A frame in hand that takes part in a step, by what is known of it.
use Rattle.std.proofs.Common.{◌≡◌, ℕ, Bool, sym, ap, subst, ◌∙◌, Some}
use Rattle.list_facts.proofs.Places.{same_some}
use Rattle.latch_space.specs.Passes.{view, values, known_values}
use Rattle.index_page.specs.Page.{PageRows}
use Rattle.tree_law.specs.Pages.{Page, is_own, IsOrderly}
use Rattle.index_law.specs.Shape.{Shape}
use Rattle.forest_law.specs.declared.objects.Frame.{Frame}
use Rattle.forest_law.specs.declared.objects.Object.TheVariants as object
use Rattle.forest_law.specs.FramePages.{TellsPage}
use Rattle.forest_law.specs.Law.{IsLawful}
use Rattle.forest_law.specs.Numbers.{frame_id}
use Rattle.forest_law.specs.State.{ForestState, page_within, page_in, fields_for}
use Rattle.forest_world.specs.Held.{TreePass, shape_of_pass, HasFrame}
use Rattle.forest_world.proofs.HandLemmas.{becomes_of}
use Rattle.tree_restructure.specs.Parts.{TakesPart}
use Rattle.tree_restructure.proofs.FrameLemmas.{in_frame}
use Rattle.buffer_pool.specs.Forests.{FitsTrees}
use Rattle.tree_smo.proofs.LawfulLemmas.{known_tells}

module _ (m : TreePass) (w : ForestState) (law : IsLawful w) (fits : FitsTrees w (view m))
    (b : ℕ) (f g : Frame) (has : HasFrame m b f g) (page : PageRows)
    (paged : f.page ≡ Some page) where
  tells : TellsPage w f page
  tells = known_tells w law (view m) fits b f page has.held paged

  that : (q : Page) → page_in f ≡ Some q → page_within page f.low f.high ≡ q
  that q e = same_some (page_within page f.low f.high) q (sym (in_frame f page paged) ∙ e)

  -- it is in order, in the trees or outside them
  pub part_of : (n : ℕ) (outside : Bool) → is_own n page.head.prev ≡ outside
      → TakesPart (shape_of_pass m) (known_values m) (values m) n outside
      (record { block = b; old = f; new = g })
  part_of n outside own = record {
    becomes = becomes_of m (frame_id (shape_of_pass m) b) (object.Frame f) (object.Frame g) has;
    order = λ q e. subst (IsOrderly (fields_for (shape_of_pass m))) (that q e)
        (subst (λ (s : Shape). IsOrderly (fields_for s) (page_within page f.low f.high)) fits.shape
        tells.order);
    tree = λ q e. ap (λ (z : Page). is_own n z.prev) (sym (that q e)) ∙ own;
  }
