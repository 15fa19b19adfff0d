-- A leaf that was come to, and what is done until it is given back.
use Rattle.std.specs.Prelude.{ℕ, ◌≡◌, ◌⊎◌, ◌+◌, None, List, ◌∷◌, []}
use Rattle.key_tuple.specs.Order.{FieldList}
use Rattle.key_tuple.specs.declared.mode.Mode.TheVariants as mode
use Rattle.latch_space.specs.Passes.{view, count}
use Rattle.map_history.specs.declared.reply.Reply.TheVariants as words
use Rattle.map_history.specs.declared.reply.Told.{Told}
use Rattle.map_history.specs.Map.{Del}
use Rattle.map_history.specs.Operation.{Make}
use Rattle.index_law.specs.Meanings.{lent_row}
use Rattle.forest_law.specs.declared.objects.Frame.{Frame}
use Rattle.forest_law.specs.Numbers.{frame_id}
use Rattle.forest_world.specs.Held.{TreePass, shape_of_pass}
use Rattle.call_law.specs.Hands.{KnowsFrame}
use Rattle.call_law.specs.Trace.{frame_references}
use Rattle.buffer_pool.specs.AsTaken.{AreAsTaken}
use Rattle.buffer_pool.specs.Calls.{DoesSilently}
use Rattle.buffer_pool.specs.Frames.{GivesFrame}
use Rattle.buffer_pool.specs.Hands.{LacksFrame}
use Rattle.tree_descent.specs.declared.descending.Leaf.{Leaf}
use Rattle.tree_descent.specs.Leaves.{IsLeafFor}
use Rattle.tree_growth.specs.Growing.{GrowsSilently}
use Rattle.leaf_changes.specs.Holds.{KeepsNumber}
use Rattle.leaf_changes.specs.Says.{AnswersAndLeaves, LooksBeside}
use Rattle.index_engine.specs.Traces.{Finding, IsFullLeaf, HasLightPage, SeesEach}

-- the leaf with the key's position is held besides, and was found so by the references that were
-- added; each frame that kept its page was given back as it was taken
pub record ComesToLeaf (found : Finding) (p : TreePass) (i : ℕ) (key : FieldList) (leaf : Leaf)
    (q : TreePass) : Type 0 where
  pub silently : DoesSilently p q (frame_id (shape_of_pass p) leaf.block ∷ [])
  pub as_taken : AreAsTaken silently.added.references
  pub lacked : LacksFrame p leaf.block
  pub frame : Frame
  pub knows : KnowsFrame (view q) leaf.block frame
  pub is : IsLeafFor (shape_of_pass p) frame i mode.Ge key leaf.spot
  pub came : found is.page.is.page.head.number (frame_references silently.added.references)
  pub count : count q ≡ count p + 1

-- nothing was answered, and the leaf in hand was given back
pub record LooksAndLeaves (p : TreePass) (b i : ℕ) (q : TreePass) : Type 0 where
  pub between : TreePass
  pub looks : LooksBeside (view p) (view between) i
  pub gave : GivesFrame between b q
  pub number : KeepsNumber (view p) b gave.frame

-- the same, and it had no room for the row
pub record LeavesFull (p : TreePass) (b i : ℕ) (key : FieldList) (value : List ℕ)
    (q : TreePass) : Type 0 where
  pub left : LooksAndLeaves p b i q
  pub full : IsFullLeaf (shape_of_pass p) i key value left.gave.frame

-- light pages were merged after a row was taken out of a light leaf, and nothing was said
pub record MergesLater (leaf : Frame) (i : ℕ) (told : Told) (p q : TreePass) : Type 0 where
  pub took : told.reply ≡ words.Ok
  pub light : HasLightPage leaf
  pub seen : SeesEach (view p) i
  pub merged : GrowsSilently p q

-- a del was answered by the leaf in hand, which then was given back; nothing was done after that,
-- or light pages were merged
pub record AnswersDel (p : TreePass) (b i : ℕ) (key : FieldList) (told : Told)
    (q : TreePass) : Type 0 where
  pub between : TreePass
  pub answers : AnswersAndLeaves p b i (Make (Del key)) told (lent_row None) between
  pub after : (q ≡ between) ⊎ MergesLater answers.gave.frame i told between q
