-- The frames of a root and of its only child, out of their places and back as lifted.
use Rattle.std.specs.Prelude.{ℕ, suc, ◌≡◌, ◌≢◌, Option, List, ◌∷◌}
use Rattle.latch_space.specs.Passes.{view, count}
use Rattle.index_law.specs.Shape.{Shape}
use Rattle.forest_law.specs.declared.objects.Frame.{Frame}
use Rattle.forest_law.specs.declared.objects.Tree.{Tree}
use Rattle.forest_law.specs.Numbers.{tree_id, frame_id}
use Rattle.forest_law.specs.HashSteps.{KeepsHashing}
use Rattle.forest_world.specs.Held.{TreePass, shape_of_pass, HasFrame}
use Rattle.tree_merging.specs.Lifts.{SuitsLiftFrames, LiftsFrame}
use Rattle.hash_maintain.specs.Moves.{first_hashed}
use Rattle.call_law.specs.Hands.{KnowsFrame, KnowsTree}
use Rattle.buffer_pool.specs.Calls.{DoesSilently}
use Rattle.buffer_pool.specs.NewPages.{HoldsOutsidePage}
use Rattle.buffer_pool.specs.Parts.{part_of_index, part_ids, KnowsPartIf}
use Rattle.tree_smo.specs.Remakes.{Remakes}
use Rattle.tree_smo.specs.Storeys.{storeys_ids}
use Rattle.tree_shrinking.specs.Lifting.{CanLift}

-- the two frames differ, are what they are known to be, and the rows of the second can go to the
-- first
pub record SuitsSinking (p : TreePass) (root child : ℕ) : Type 0 where
  pub apart : child ≢ root
  pub top : Frame
  pub low : Frame
  pub has_top : HasFrame p root top top
  pub has_low : HasFrame p child low low
  pub suits : SuitsLiftFrames top low

-- the first frame in hand, which is known to be t, took the rows of the second, which is known to
-- be b, and both are hashed as they were
pub record LiftsStoreys (p : TreePass) (root child : ℕ) (t b : Frame) (q : TreePass) : Type 0 where
  pub top : Frame
  pub low : Frame
  pub has_top : HasFrame q root t top
  pub has_low : HasFrame q child b low
  pub lifts : LiftsFrame t top b low
  pub top_hash : KeepsHashing t top
  pub low_hash : KeepsHashing b low
  pub remakes : Remakes p q (storeys_ids (shape_of_pass p) root child)

-- so it is, whatever they were known to be
abbrev pub SinksStoreys : TreePass → (root child : ℕ) → TreePass → Type 0
SinksStoreys p root child q = (t b : Frame) → HasFrame p root t t → HasFrame p child b b
    → LiftsStoreys p root child t b q

-- the numbers of the objects that a lift changes, with that of the partition of this index, if there
-- is one
abbrev pub sunk_ids : Shape → (i b child : ℕ) → Option ℕ → List ℕ
sunk_ids shape i b child hashed = frame_id shape b ∷ frame_id shape child ∷ tree_id i
    ∷ part_ids shape (part_of_index shape hashed)

-- the root has the rows of its child and is a level lower, and so is the tree, while the partition of
-- the index, if one of both is hashed, kept up with it
pub record SinksHashed (p : TreePass) (i b child : ℕ) (q : TreePass) : Type 0 where
  pub was : CanLift (view p) i b child
  pub silently : DoesSilently p q
      (sunk_ids (shape_of_pass p) i b child (first_hashed was.low was.root))
  pub tree : Tree
  pub root : Frame
  pub gone : Frame
  pub knows_tree : KnowsTree (view q) i tree
  pub knows_root : KnowsFrame (view q) b root
  pub knows_gone : KnowsFrame (view q) child gone
  pub lifts : LiftsFrame was.root root was.low gone
  pub sinks : was.tree ≡ record tree { height = suc tree.height }
  pub outside : HoldsOutsidePage (view q) child
  pub part : KnowsPartIf (view q)
      (part_of_index (shape_of_pass p) (first_hashed was.low was.root))
  pub count : count q ≡ count p
