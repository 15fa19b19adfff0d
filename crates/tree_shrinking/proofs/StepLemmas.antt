-- One level down, to the page that has the key.
use Rattle.std.proofs.Common.{◌≡◌, ◌≢◌, ℕ, suc, ◌+◌, ◌<◌, [], ◌∷◌, sym, subst, refl, arith}
use Rattle.key_tuple.specs.Order.{FieldList}
use Rattle.key_tuple.specs.declared.mode.Mode.TheVariants as mode
use Rattle.latch_space.specs.Passes.{view}
use Rattle.index_law.specs.Shape.{Shape}
use Rattle.forest_law.specs.Numbers.{frame_id}
use Rattle.forest_world.specs.Held.{TreePass, shape_of_pass, HasFrame}
use Rattle.buffer_pool.specs.Frames.{GivesFrame}
use Rattle.buffer_pool.specs.Hands.{MayGiveBack}
use Rattle.buffer_pool.proofs.AddedLemmas.{frame_still}
use Rattle.buffer_pool.proofs.CallLemmas.{frame_has, gave_frame}
use Rattle.tree_descent.specs.Descents.{TakesChild}
use Rattle.tree_descent.proofs.PageLemmas.{may_give_back}
use Rattle.tree_growth.specs.declared.looking.PageInHand.{PageInHand}
use Rattle.tree_growth.specs.Pages.{TellsRoom, HoldsPagedFrame, IsPageInHand}
use Rattle.tree_growth.specs.Ways.{IsGoingDown, ArrivesAt}
use Rattle.tree_growth.proofs.AddLemmas.{same_shape, reaches_after}
use Rattle.tree_growth.proofs.ChildLemmas.{goes_child, way_child, level_below}
use Rattle.tree_growth.proofs.HalvesLemmas.{Looks}
use Rattle.tree_growth.proofs.HandLemmas.{frames_apart, still_gave}
use Rattle.tree_growth.proofs.KnownLemmas.{lacked_apart}
use Rattle.tree_growth.proofs.PageLemmas.{HasKey, its_level, reaches_kept}

module _ {p q : TreePass} {i : ℕ} {key : FieldList} {at : PageInHand} {child : ℕ}
    (way : IsGoingDown p i key (at.block ∷ [])) (is : IsPageInHand (view p) i key 0 at)
    (above : 0 < at.level) (takes : TakesChild p at.block i mode.Ge key child q) where
  both : IsGoingDown q i key (at.block ∷ child ∷ [])
  both = way_child p q i key 0 at child way is above takes

  apart : at.block ≢ child
  apart = lacked_apart p at.block child takes.parent.frame takes.lacked takes.parent.knows

  page : HasKey (shape_of_pass q) i takes.parent.level key takes.frame
  page = subst (λ (t : Shape). HasKey t i takes.parent.level key takes.frame)
      (sym (same_shape p q takes.silently.added takes.silently.does.adds)) takes.page

  -- the page that was in hand can be given back
  pub parent_may_go : MayGiveBack q at.block
  parent_may_go = may_give_back q both.known at.block i (suc takes.parent.level)
      takes.parent.frame
      (frame_still (view p) (view q) (frame_id (shape_of_pass p) child ∷ [])
      takes.silently.does.adds.numbers takes.silently.does.rest at.block
      (frames_apart (shape_of_pass p) at.block child apart, tt) takes.parent.frame
      takes.parent.knows)
      takes.parent.page.is

  module _ {r : TreePass} (gave : GivesFrame q at.block r) where
    child_has : HasFrame r child takes.frame takes.frame
    child_has = frame_has r (gave_frame q r both.known at.block gave).known child takes.frame
        (still_gave q r at.block both.known gave child takes.frame (λ e. apart (sym e))
        takes.knows)

    -- the page below it can be read then
    pub child_held : HoldsPagedFrame r child
    child_held = (takes.frame, page.is.page, child_has, page.is.paged)

    module _ (low : PageInHand) (looks : Looks r child 0 low) where
      tells : TellsRoom child page.is.page 0 low
      tells = looks takes.frame page.is.page child_has page.is.paged

      pub steps_down : ArrivesAt p i key 0 low r
      steps_down = reaches_after p q r i key 0 low
          (goes_child p q i key 0 at child way is above takes)
          (reaches_kept q r i key 0 (at.block ∷ child ∷ []) both at.block child
          (λ e. apart (sym e)) gave (λ j ne each. (ne, (each.0, tt))) refl takes.parent.level
          takes.frame takes.knows page low tells)

      pub step_lower : at.level ≡ low.level + 1
      step_lower =
          let one = level_below p q i key 0 at child way is above takes in
          let same = its_level (view q) i key 0 child takes.parent.level low takes.frame page
          tells in
          omega (arith, one, same)
