-- Before a merge and before a lift no page outside the trees is in hand.
use Rattle.std.proofs.Common.{◌≡◌, ℕ, suc, ◌<◌, List, [], ◌∷◌, sym, subst, ◌∙◌, None}
use mathlib.Core.Option.{some}
use lib.ListN.{get_elem?}
use Rattle.latch_space.specs.Passes.{view}
use Rattle.index_law.specs.Shape.{Shape}
use Rattle.forest_law.specs.Numbers.{frame_id, frames_of}
use Rattle.forest_world.specs.Held.{TreePass, shape_of_pass}
use Rattle.call_law.specs.Hands.{HoldsNoFrameBut, HoldsNoOutside}
use Rattle.buffer_pool.specs.Pages.{PagesIn}
use Rattle.tree_smo.specs.declared.halves.SplitBlocks.{SplitBlocks}
use Rattle.tree_smo.proofs.InsideLemmas.{knows_inside, none_outside_but}
use Rattle.tree_smo.proofs.SilentLemmas.{does_shape}
use Rattle.tree_growth.proofs.HandLemmas.{frames_apart}
use Rattle.tree_shrinking.specs.Lifting.{CanLift}
use Rattle.tree_shrinking.specs.Merging.{CanMerge}

-- the numbers of the frames are all that objects have
abbrev HasAllFrames : TreePass → Type 0
HasAllFrames p = (view p).terms.objects ≡ frame_id (shape_of_pass p) (frames_of (shape_of_pass p))

-- two pages and the one above them alone are in hand
pub pair_inside : (p : TreePass) {at : SplitBlocks} {i : ℕ}
    → CanMerge (view p) at.parent at.child at.right i → HasAllFrames p
    → HoldsNoFrameBut (view p) (at.parent ∷ at.child ∷ at.right ∷ [])
    → HoldsNoOutside (view p)
pair_inside p {at} {i} can objects only =
    none_outside_but p (at.parent ∷ at.child ∷ at.right ∷ []) objects only (
      knows_inside (view p) at.parent i (suc can.level) can.up can.knows_up can.above,
      (
        knows_inside (view p) at.child i can.level can.lower can.knows_left can.is_left,
        (knows_inside (view p) at.right i can.level can.upper can.knows_right can.is_right, tt),
      ),
    )

module _ {p q : TreePass} {n b : ℕ} (took : PagesIn p n b q) where
  shape_took : shape_of_pass q ≡ shape_of_pass p
  shape_took = does_shape p q (frame_id (shape_of_pass p) b ∷ []) took.silently.added
      took.silently.does

  -- where a page was taken its frame alone is held besides
  frames_took : (bs : List ℕ) → HoldsNoFrameBut (view p) bs → HoldsNoFrameBut (view q) (b ∷ bs)
  frames_took bs only c below apart =
      subst (λ (s : Shape). get_elem? (view q).held (frame_id s c) ≡ some None) (sym shape_took)
      (took.silently.does.rest (frame_id (shape_of_pass p) c)
      (frames_apart (shape_of_pass p) c b apart.0, tt)
      ∙ only c (subst (λ (s : Shape). c < frames_of s) shape_took below) apart.1)

  -- those pages and the one behind them alone are in hand
  pub behind_inside : {at : SplitBlocks} {i : ℕ}
      → CanMerge (view q) at.parent at.child at.right i → HasAllFrames q
      → HoldsNoFrameBut (view p) (at.parent ∷ at.child ∷ at.right ∷ [])
      → HoldsNoOutside (view q)
  behind_inside {at} {i} can objects only =
      none_outside_but q (b ∷ at.parent ∷ at.child ∷ at.right ∷ []) objects
      (frames_took (at.parent ∷ at.child ∷ at.right ∷ []) only) (
        (took.frame, took.knows, took.inside),
        (
          knows_inside (view q) at.parent i (suc can.level) can.up can.knows_up can.above,
          (
            knows_inside (view q) at.child i can.level can.lower can.knows_left can.is_left,
            (knows_inside (view q) at.right i can.level can.upper can.knows_right can.is_right, tt),
          ),
        ),
      )

-- a root and its only child alone are in hand
pub lift_inside : (p : TreePass) {i b child : ℕ} → CanLift (view p) i b child → HasAllFrames p
    → HoldsNoFrameBut (view p) (b ∷ child ∷ []) → HoldsNoOutside (view p)
lift_inside p {i} {b} {child} can objects only =
    none_outside_but p (b ∷ child ∷ []) objects only (
      knows_inside (view p) b i (suc can.level) can.root can.knows_root can.above,
      (knows_inside (view p) child i can.level can.low can.knows_low can.below, tt),
    )
