-- The frames of a parent and of two children, out of their places and back as merged.
use Rattle.forest_world.specs.Held.{TreePass, shape_of_pass}
use Rattle.forest_law.specs.HashSteps.{KeepsHashing}
use Rattle.tree_merging.specs.FrameMerges.{SuitsMerge, MergesUnder}
use Rattle.tree_smo.specs.declared.halves.SplitBlocks.{SplitBlocks}
use Rattle.tree_smo.specs.declared.halves.SplitHands.{SplitHands}
use Rattle.tree_smo.specs.Halves.{halves_ids, HasHalves, HoldsHalves}
use Rattle.tree_smo.specs.Remakes.{Remakes}

-- the three frames in hand can be merged
pub record SuitsTaken (p : TreePass) (at : SplitBlocks) : Type 0 where
  pub held : HoldsHalves p at
  pub suits : SuitsMerge held.was.left held.was.right held.was.up

-- the three frames in hand were merged, and both pages' frames are hashed as they were
pub record MergesHalves (p : TreePass) (at : SplitBlocks) (was : SplitHands)
    (q : TreePass) : Type 0 where
  pub now : SplitHands
  pub has : HasHalves q at was now
  pub merges : MergesUnder was.left now.left was.right now.right was.up now.up
  pub left_hash : KeepsHashing was.left now.left
  pub right_hash : KeepsHashing was.right now.right
  pub remakes : Remakes p q (halves_ids (shape_of_pass p) at)

-- so it is, whatever they were known to be
abbrev pub JoinsHalves : TreePass → SplitBlocks → TreePass → Type 0
JoinsHalves p at q = (was : SplitHands) → HasHalves p at was was → MergesHalves p at was q
