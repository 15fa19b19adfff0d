-- The frames of a parent and of two halves, taken out of their places, changed and put back.
use Rattle.std.specs.Prelude.{ℕ, ◌≡◌, ◌≢◌, None, List, [], ◌∷◌}
use Rattle.key_tuple.specs.Order.{FieldList}
use Rattle.index_law.specs.Shape.{Shape}
use Rattle.forest_law.specs.Numbers.{frame_id}
use Rattle.forest_law.specs.HashSteps.{KeepsHashing}
use Rattle.forest_world.specs.Held.{TreePass, shape_of_pass, HasFrame}
use Rattle.tree_restructure.specs.declared.cut.Cut.{Cut}
use Rattle.tree_restructure.specs.SplitCalls.{SuitsSplit, SplitsUnder, split_refusal}
use Rattle.call_law.specs.Hands.{KnowsFrame}
use Rattle.call_law.specs.Spoken.{View}
use Rattle.buffer_pool.specs.Hands.{HasOut}
use Rattle.tree_smo.specs.declared.halves.SplitBlocks.{SplitBlocks}
use Rattle.tree_smo.specs.declared.halves.SplitHands.{SplitHands}
use Rattle.tree_smo.specs.Remakes.{Remakes}

-- the numbers of the three frames
abbrev pub halves_ids : Shape → SplitBlocks → List ℕ
halves_ids shape at =
    frame_id shape at.parent ∷ frame_id shape at.child ∷ frame_id shape at.right ∷ []

-- the three blocks differ
pub record AreThree (at : SplitBlocks) : Type 0 where
  pub child : at.child ≢ at.parent
  pub right : at.right ≢ at.parent
  pub halves : at.right ≢ at.child

-- the pass holds the three frames, and knows them to be these
pub record KnowsHalves (v : View) (at : SplitBlocks) (was : SplitHands) : Type 0 where
  pub up : KnowsFrame v at.parent was.up
  pub left : KnowsFrame v at.child was.left
  pub right : KnowsFrame v at.right was.right

-- it holds the three frames, which are known to be the first ones and are the second ones
pub record HasHalves (p : TreePass) (at : SplitBlocks) (was now : SplitHands) : Type 0 where
  pub up : HasFrame p at.parent was.up now.up
  pub left : HasFrame p at.child was.left now.left
  pub right : HasFrame p at.right was.right now.right

-- it holds the three frames, which are known to be these and were taken out
pub record HasHalvesOut (p : TreePass) (at : SplitBlocks) (was : SplitHands) : Type 0 where
  pub up : HasOut p at.parent was.up
  pub left : HasOut p at.child was.left
  pub right : HasOut p at.right was.right

-- the three frames differ, and are what they are known to be
pub record HoldsHalves (p : TreePass) (at : SplitBlocks) : Type 0 where
  pub three : AreThree at
  pub was : SplitHands
  pub has : HasHalves p at was was

-- they differ, and were taken out
pub record LacksHalves (p : TreePass) (at : SplitBlocks) : Type 0 where
  pub three : AreThree at
  pub was : SplitHands
  pub out : HasHalvesOut p at was

-- the three frames were taken out of their places, as they were known
pub record TakesHalvesOut (p : TreePass) (at : SplitBlocks) (hands : SplitHands)
    (q : TreePass) : Type 0 where
  pub out : (was : SplitHands) → HasHalves p at was was → HasHalvesOut q at was × (hands ≡ was)
  pub remakes : Remakes p q (halves_ids (shape_of_pass p) at)

-- these three frames were put into their places
pub record PutsHalvesBack (p : TreePass) (at : SplitBlocks) (hands : SplitHands)
    (q : TreePass) : Type 0 where
  pub has : (was : SplitHands) → HasHalvesOut p at was → HasHalves q at was hands
  pub remakes : Remakes p q (halves_ids (shape_of_pass p) at)

-- the three frames can be split at this cut, and the parent takes the pointer
pub record SuitsHalves (p : TreePass) (at : SplitBlocks) (cut : Cut) : Type 0 where
  pub held : HoldsHalves p at
  pub suits : SuitsSplit held.was.left held.was.right held.was.up cut.place cut.key.tuple
  pub taken : split_refusal held.was.up held.was.right cut.key.tuple ≡ None

-- the three frames in hand were split at this key, and both halves are hashed as they were
pub record SplitsHalves (p : TreePass) (at : SplitBlocks) (key : FieldList) (was : SplitHands)
    (q : TreePass) : Type 0 where
  pub now : SplitHands
  pub has : HasHalves q at was now
  pub splits : SplitsUnder was.left now.left was.right now.right was.up now.up key
  pub hash : KeepsHashing was.left now.left × KeepsHashing was.right now.right
  pub remakes : Remakes p q (halves_ids (shape_of_pass p) at)

-- so it is, whatever they were known to be
abbrev pub ChangesHalves : TreePass → SplitBlocks → FieldList → TreePass → Type 0
ChangesHalves p at key q = (was : SplitHands) → HasHalves p at was was → SplitsHalves p at key was q
