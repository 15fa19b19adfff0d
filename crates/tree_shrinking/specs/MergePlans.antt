-- A merge that is to be made, with the page behind in hand, and what is made by it.
use Rattle.std.specs.Prelude.{ℕ, ◌≡◌, Option, List, ◌∷◌}
use Rattle.latch_space.specs.Passes.{view, count}
use Rattle.index_law.specs.Shape.{Shape}
use Rattle.forest_law.specs.Numbers.{frame_id}
use Rattle.forest_world.specs.Held.{TreePass, shape_of_pass}
use Rattle.call_law.specs.Spoken.{View}
use Rattle.hash_maintain.specs.Moves.{first_hashed}
use Rattle.buffer_pool.specs.Calls.{DoesSilently}
use Rattle.buffer_pool.specs.Parts.{part_of_index, KnowsPartIf}
use Rattle.tree_merging.specs.FrameMerges.{MergesUnder}
use Rattle.tree_smo.specs.declared.halves.SplitBlocks.{SplitBlocks}
use Rattle.tree_smo.specs.declared.halves.SplitHands.{SplitHands}
use Rattle.tree_smo.specs.Halves.{KnowsHalves}
use Rattle.tree_smo.specs.Plans.{HoldsNext, next_ids, more_ids, KnowsNext}
use Rattle.tree_shrinking.specs.Merging.{CanMerge}

-- the pass holds all that the merge changes: the three pages, and the one behind them, where there
-- is one, in the frame of the block `next`
pub record HoldsMerge (v : View) (at : SplitBlocks) (i : ℕ) (next : Option ℕ) : Type 0 where
  pub can : CanMerge v at.parent at.child at.right i
  pub behind : HoldsNext v i can.level next can.is_right.page.head.next

-- the numbers of the frames that a merge changes
abbrev pub merge_ids : Shape → SplitBlocks → Option ℕ → List ℕ
merge_ids shape at next =
    frame_id shape at.parent ∷ frame_id shape at.child ∷ frame_id shape at.right
    ∷ next_ids shape next

-- the three frames, as they were known, were merged
pub record MergesSo (v v' : View) (at : SplitBlocks) (i : ℕ) (next : Option ℕ) : Type 0 where
  pub was : HoldsMerge v at i next
  pub now : SplitHands
  pub knows : KnowsHalves v' at now
  pub merges : MergesUnder was.can.lower now.left was.can.upper now.right was.can.up now.up
  pub behind : KnowsNext v' next

-- the numbers of all objects that a merge changes, with that of the partition of this index, if there
-- is one
abbrev pub merged_ids : Shape → SplitBlocks → (next hashed : Option ℕ) → List ℕ
merged_ids shape at next hashed =
    frame_id shape at.parent ∷ frame_id shape at.child ∷ frame_id shape at.right
    ∷ more_ids shape next (part_of_index shape hashed)

-- the merge was made, while the partition of both pages' index, if one is hashed, kept up with it
pub record MergesHashed (p : TreePass) (at : SplitBlocks) (i : ℕ) (next : Option ℕ)
    (q : TreePass) : Type 0 where
  pub merges : MergesSo (view p) (view q) at i next
  pub silently : DoesSilently p q (merged_ids (shape_of_pass p) at next
      (first_hashed merges.was.can.upper merges.was.can.lower))
  pub part : KnowsPartIf (view q) (part_of_index (shape_of_pass p)
      (first_hashed merges.was.can.upper merges.was.can.lower))
  pub count : count q ≡ count p

-- the pass has made the merge
pub record MakesMerge (p : TreePass) (at : SplitBlocks) (i : ℕ) (next : Option ℕ)
    (q : TreePass) : Type 0 where
  pub silently : DoesSilently p q (merge_ids (shape_of_pass p) at next)
  pub merges : MergesSo (view p) (view q) at i next
  pub count : count q ≡ count p
