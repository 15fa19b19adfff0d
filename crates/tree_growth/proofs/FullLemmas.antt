-- A child without room, which can be split, and one with room, which is kept.
use Rattle.std.proofs.Common.{◌≡◌, ℕ, suc, ◌≤◌, ◌<◌, ◌+◌, true, false, [], ◌∷◌, subst, ◌∙◌, arith}
use Rattle.key_tuple.specs.Order.{FieldList}
use Rattle.latch_space.specs.Passes.{view}
use Rattle.index_page.specs.declared.TheConstants.{PAGE_ROOM, MAX_CHARGE}
use Rattle.index_page.specs.Loads.{load_of}
use Rattle.forest_world.specs.Held.{TreePass}
use Rattle.tree_restructure.specs.Charges.{largest_on}
use Rattle.buffer_pool.specs.Frames.{GivesFrame}
use Rattle.buffer_pool.specs.Hands.{MayGiveBack}
use Rattle.buffer_pool.proofs.CallLemmas.{frame_has}
use Rattle.tree_descent.proofs.PageLemmas.{may_give_back}
use Rattle.tree_smo.specs.Splitting.{CanSplit}
use Rattle.tree_growth.specs.declared.looking.PageInHand.{PageInHand}
use Rattle.tree_growth.specs.Pages.{TellsRoom, IsOrdered, HoldsChild}
use Rattle.tree_growth.specs.Ways.{IsGoingDown, GrowsChild}
use Rattle.tree_growth.proofs.HalvesLemmas.{Looks, keeps_right}
use Rattle.tree_growth.proofs.KnownLemmas.{levels_apart}
use Rattle.tree_growth.proofs.PageLemmas.{its_level}
use Rattle.tree_growth.proofs.RoomLemmas.{needed_most}

module _ (p : TreePass) (i : ℕ) (key : FieldList) (need parent child : ℕ)
    (way : IsGoingDown p i key (parent ∷ child ∷ [])) (small : need ≤ MAX_CHARGE) (at : PageInHand)
    (looks : Looks p child need at) where
  tells : (held : HoldsChild (view p) parent child i key)
      → TellsRoom child held.below.is.page need at
  tells held = looks held.low held.below.is.page
      (frame_has p way.known child held.low held.knows_low) held.below.is.paged

  pub is_ordered : IsOrdered (view p) child
  is_ordered f page knows paged = (looks f page (frame_has p way.known child f knows) paged).order

  -- a full child has no room for one row more of the largest charge
  child_is_full : (held : HoldsChild (view p) parent child i key) → at.is_full ≡ true
      → PAGE_ROOM < load_of held.below.is.page.rows + largest_on held.level
  child_is_full held full = let told = tells held in
      let none = told.full full in
      let most = needed_most at.level need small in
      let level = told.is_level ∙ held.below.is.at_level in
      subst (λ l. PAGE_ROOM < load_of held.below.is.page.rows + largest_on l) level
      (omega (arith, none, most))

  module _ (held : HoldsChild (view p) parent child i key) where
    pub may_give_parent : MayGiveBack p parent
    may_give_parent = may_give_back p way.known parent i (suc held.level) held.up held.knows_up
        held.above

    pub can_split : at.is_full ≡ true → CanSplit (view p) parent child i
    can_split full = record {
      level = held.level;
      up = held.up;
      low = held.low;
      knows_up = held.knows_up;
      knows_low = held.knows_low;
      above = held.above;
      below = held.below.is;
      points = held.points;
      room = held.room;
      two = (tells held).two full;
      full = child_is_full held full;
    }

    pub grows_kept : (q : TreePass) → at.is_full ≡ false → GivesFrame p parent q
        → GrowsChild p parent child i key need at q
    grows_kept q not_full gave = record {
      reaches = keeps_right p q i key need parent child way
          (levels_apart (view p) parent child i held.level held.up held.low held.knows_up
          held.knows_low held.above held.below.is) gave held.level held.low held.knows_low
          held.below at (tells held);
      level = λ it. its_level (view p) i key need child it.level at it.low it.below (tells it);
      fits = not_full;
    }
