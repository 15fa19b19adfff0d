-- The page that is to be split, as it is read in its frame.
use Rattle.std.proofs.Common.{◌≡◌, ℕ, sym, ap, subst, ◌∙◌, refl, Some, None}
use Rattle.key_tuple.specs.Limits.{IsWithinLimits}
use Rattle.latch_space.specs.Has.{IsKnown}
use Rattle.latch_space.specs.Passes.{view}
use Rattle.index_page.specs.declared.head.PageHead.{PageHead}
use Rattle.index_page.specs.Page.{PageRows, IsNeighbour}
use Rattle.forest_law.specs.declared.objects.Frame.{Frame}
use Rattle.forest_world.specs.Held.{TreePass, HasFrame}
use Rattle.tree_restructure.specs.FrameCuts.{CanBeCut, IsCutOf}
use Rattle.tree_restructure.specs.Links.{HasAPage}
use Rattle.tree_restructure.specs.declared.cut.Cut.{Cut}
use Rattle.buffer_pool.specs.Calls.{GetsNothing}
use Rattle.buffer_pool.proofs.CallLemmas.{frame_has, does_nothing}
use Rattle.tree_smo.specs.declared.plans.SplitPlan.{SplitPlan}
use Rattle.tree_smo.specs.Plans.{IsPlanOf}
use Rattle.tree_smo.specs.Splitting.{CanSplit}

-- nothing was done
pub got_nothing : (p : TreePass) → IsKnown p → GetsNothing p p
got_nothing p known = record { silently = does_nothing p known; count = refl }

module _ (p : TreePass) (known : IsKnown p) (parent child index : ℕ)
    (can : CanSplit (view p) parent child index) (f : Frame)
    (read : (x y : Frame) → HasFrame p child x y → f ≡ y) where
  -- it is what it is known to be
  low_is : f ≡ can.low
  low_is = read can.low can.low (frame_has p known child can.low can.knows_low)

  paged : f.page ≡ Some can.below.page
  paged = ap (λ (x : Frame). x.page) low_is ∙ can.below.paged

  pub low_page : HasAPage f
  low_page = record { page = can.below.page; has = paged }

  pub can_be_cut : CanBeCut f
  can_be_cut = record { page = can.below.page; has = paged; two = can.two }

  module _ (head : PageHead) (is : (page : PageRows) → f.page ≡ Some page → head ≡ page.head) where
    pub index_is : head.index ≡ index
    index_is = ap (λ (z : PageHead). z.index) (is can.below.page paged) ∙ can.below.index

    abbrev plan_for : Cut → SplitPlan
    plan_for cut =
        record { parent = parent; child = child; head = head; cut = cut; next = None }

    -- the split of it is planned
    pub planned : (cut : Cut) → IsNeighbour head.next → IsCutOf f cut
        → IsWithinLimits cut.key.tuple
        → (c : CanSplit (view p) parent child head.index)
        × IsPlanOf c.low (plan_for cut)
    planned cut next cuts limits = subst
        (λ i. (c : CanSplit (view p) parent child i)
        × IsPlanOf c.low (plan_for cut))
        (sym index_is) (
          can,
          subst
              (λ x. IsPlanOf x (plan_for cut))
              low_is
              (record { head = is; cut = cuts; limits = limits; next = next }),
        )
