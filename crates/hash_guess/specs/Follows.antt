-- What is told once the block of a node was tried.
use Rattle.std.specs.Prelude.{ℕ, ◌≡◌, ◌+◌, [], ◌∷◌}
use Rattle.latch_law.specs.Fitting.{WasHeld}
use Rattle.latch_law.specs.Rule.{Holds}
use Rattle.latch_law.specs.Views.{holding}
use Rattle.latch_law.specs.Whole.{reference}
use Rattle.latch_space.specs.Passes.{view, count}
use Rattle.chain_arena.specs.declared.node.Node.{Node}
use Rattle.chain_arena.specs.Bag.{HasNode}
use Rattle.hash_partition.specs.Part.{Part}
use Rattle.hash_law.specs.BlockLaws.{HasNamedRow}
use Rattle.index_law.specs.Rightness.{IsRight}
use Rattle.forest_law.specs.declared.objects.Frame.{Frame}
use Rattle.forest_law.specs.declared.objects.Object.{Object}
use Rattle.forest_law.specs.declared.objects.Object.TheVariants as object
use Rattle.forest_law.specs.Hashed.{folds_for, hash_block}
use Rattle.forest_law.specs.Law.{IsLawful}
use Rattle.forest_law.specs.Numbers.{frame_id}
use Rattle.forest_law.specs.Outside.{HasNoOutside}
use Rattle.forest_law.specs.References.{IsReference}
use Rattle.forest_world.specs.Held.{TreePass, shape_of_pass}
use Rattle.call_law.specs.Hands.{LacksObject}
use Rattle.buffer_pool.specs.Calls.{Does}
use Rattle.buffer_pool.specs.Tries.{tries_and_given}
use Rattle.hash_guess.specs.Leads.{part_in, part_id_in, refused_try}

-- the partition of the index is held, which was taken so and is known to be this one, and has the node
pub record HasNodeInHand (p : TreePass) (index : ℕ) (n : Node) : Type 0 where
  pub taken : Object
  pub part : Part
  pub held : Holds (view p) (part_id_in p index) (holding taken (object.Part part))
  pub has : HasNode part.nodes n

-- the number of the frame of the node's block
abbrev pub frame_id_of : TreePass → Node → ℕ
frame_id_of p n = frame_id (shape_of_pass p) n.block

-- the pass h, another one, held the block's frame: one refused try more, and the partition went out as
-- it was known, which one reference tells
pub record FindsBusy (p : TreePass) (index : ℕ) (n : Node) (h : ℕ) (q : TreePass) : Type 0 where
  pub node : HasNodeInHand p index n
  pub was_held : WasHeld IsLawful IsRight IsReference (view p) (frame_id_of p n) h
  pub does : Does p q (part_id_in p index ∷ [])
      (tries_and_given (refused_try (view p) (frame_id_of p n) h ∷ [])
      (reference (part_id_in p index) node.taken (object.Part node.part) ∷ []))
  pub lacks : LacksObject (view q) (part_id_in p index)
  pub count : count q + 1 ≡ count p

-- the block's frame was taken by one try, and has a leaf with a row that the node names; it is held
-- besides as it was taken, and the partition went out as it was known, which one reference tells
pub record FollowsTo (p : TreePass) (index : ℕ) (n : Node) (q : TreePass) : Type 0 where
  pub node : HasNodeInHand p index n
  pub lacked : LacksObject (view p) (frame_id_of p n)
  pub frame : Frame
  pub held : Holds (view q) (frame_id_of p n) (holding (object.Frame frame) (object.Frame frame))
  pub named : HasNamedRow (folds_for (shape_of_pass p)) (shape_of_pass p).parts (part_in p index)
      (hash_block frame) n
  pub inside : HasNoOutside frame
  pub does : Does p q (part_id_in p index ∷ frame_id_of p n ∷ [])
      (tries_and_given []
      (reference (part_id_in p index) node.taken (object.Part node.part) ∷ []))
  pub lacks : LacksObject (view q) (part_id_in p index)
  pub count : count q ≡ count p
