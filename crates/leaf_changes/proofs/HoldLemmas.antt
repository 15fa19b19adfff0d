-- What is known of a leaf that is held.
use Rattle.std.proofs.Common.{◌≡◌, ℕ, ◌+◌, ◌<◌, true, length, sym, ap, subst, ◌∙◌, arith, Option, Some, None}
use lib.ListN.{get_elem?}
use Rattle.key_tuple.specs.Order.{FieldList}
use Rattle.key_tuple.specs.KeyPlace.{At, within}
use Rattle.key_tuple.specs.Position.{IsOfFields}
use Rattle.key_tuple.specs.declared.mode.Mode.TheVariants as mode
use Rattle.key_tuple.proofs.PositionLemmas.{has_key}
use Rattle.latch_law.specs.declared.knows.Holding.{Holding}
use Rattle.latch_law.specs.declared.knows.Terms.{Terms}
use Rattle.latch_law.specs.Views.{holding}
use Rattle.latch_space.specs.Has.{Has, SameHands}
use Rattle.latch_space.specs.Passes.{view, count}
use Rattle.latch_space.proofs.Pointwise.{has_again}
use Rattle.tree_law.specs.Pages.{low_place, high_place, HasFields}
use Rattle.index_law.specs.Shape.{Shape}
use Rattle.forest_law.specs.declared.objects.Frame.{Frame}
use Rattle.forest_law.specs.declared.objects.Object.{Object}
use Rattle.forest_law.specs.declared.objects.Object.TheVariants as object
use Rattle.forest_law.specs.Numbers.{frame_id, part_id}
use Rattle.forest_law.specs.Objects.{IsFrameOf}
use Rattle.forest_law.specs.State.{ForestState, fields_for}
use Rattle.forest_law.proofs.ObjectLemmas.{same_frame}
use Rattle.forest_world.specs.Held.{TreePass, shape_of_pass, HasFrame}
use Rattle.call_law.specs.Hands.{KnowsFrame, LacksObject}
use Rattle.call_law.specs.Spoken.{View}
use Rattle.buffer_pool.specs.Forests.{FitsTrees}
use Rattle.buffer_pool.specs.Frames.{GivesFrame}
use Rattle.buffer_pool.proofs.CallLemmas.{frame_has}
use Rattle.buffer_pool.proofs.FrameLemmas.{one_held}
use Rattle.tree_facts.specs.TreeFrames.{low_of, high_of}
use Rattle.tree_descent.specs.declared.descending.Leaf.{Leaf}
use Rattle.tree_descent.specs.Leaves.{cut_in, IsPageFor, IsLeafFor}
use Rattle.leaf_changes.specs.Holds.{IsLeafOf, HoldsLeaf, HoldsFreshAlone}

-- in each state that fits, a frame that is held is the block's
pub frame_there : (v : View) (b : ℕ) (f : Frame) → KnowsFrame v b f → (w : ForestState)
    → FitsTrees w v → IsFrameOf w.shape w.objects b f
frame_there v b f knows w fits = ap (λ s. get_elem? w.objects (frame_id s b)) fits.shape
    ∙ fits.known (frame_id v.terms.shape b) (holding knows.0 (object.Frame f)) knows.1

-- what is given back of a block is the frame that it was known to have
pub gave_is : (p q : TreePass) (b : ℕ) (f : Frame) → HasFrame p b f f
    → (gave : GivesFrame p b q) → f ≡ gave.frame
gave_is p q b f has gave = same_frame f gave.frame
    (ap (λ (h : Holding Object). h.known)
    (one_held p (frame_id (shape_of_pass p) b)
    (holding has.held.0 (object.Frame f)) (holding gave.taken (object.Frame gave.frame))
    has.held.1 gave.held))

-- a bound of so many fields, as a place
low_fields : (n m : ℕ) (o : Option FieldList) → n ≡ m → HasFields n o → IsOfFields m (low_place o)
low_fields n m None e has = tt
low_fields n m (Some k) e has = has ∙ e

high_fields : (n m : ℕ) (o : Option FieldList) → n ≡ m → HasFields n o
    → IsOfFields m (high_place o)
high_fields n m None e has = tt
high_fields n m (Some k) e has = has ∙ e

module _ (shape : Shape) (i : ℕ) (key : FieldList) (f : Frame)
    (page : IsPageFor shape f i 0 (cut_in shape i mode.Ge key))
    (as_many : length key ≡ fields_for shape i) where
  -- the page's keys have as many fields as those of the index
  pub page_fields : page.is.page.head.fields ≡ fields_for shape i
  page_fields = page.order.fields ∙ ap (fields_for shape) page.is.index

  -- a key of the index is within the bounds that have its position
  pub key_inside : within (low_of f) (high_of f) (At key) ≡ true
  key_inside = has_key (fields_for shape i) mode.Ge key (low_of f) (high_of f) as_many
      (low_fields page.is.page.head.fields (fields_for shape i) _ page_fields page.order.low)
      (high_fields page.is.page.head.fields (fields_for shape i) _ page_fields page.order.high)
      (record { at_low = page.within.low; at_high = page.within.high })

-- a frame is held still where what is in hand stays
pub frame_again : (p q : TreePass) (b : ℕ) (f g : Frame) → SameHands p q
    → (view q).terms ≡ (view p).terms → HasFrame p b f g → HasFrame q b f g
frame_again p q b f g same terms has =
    subst (λ (t : Terms Shape). Has q (frame_id t.shape b) (object.Frame f) (object.Frame g))
    (sym terms)
    (has_again p q (frame_id (shape_of_pass p) b) (object.Frame f) (object.Frame g) same has)

-- and so is a leaf
pub leaf_again : (p q : TreePass) (b i : ℕ) (key : FieldList) (f g : Frame) → SameHands p q
    → (view q).terms ≡ (view p).terms → HoldsLeaf p b i key f g → HoldsLeaf q b i key f g
leaf_again p q b i key f g same terms holds = record {
  has = frame_again p q b f g same terms holds.has;
  leaf = subst (λ (t : Terms Shape). IsLeafOf t.shape i key f) (sym terms) holds.leaf;
}
