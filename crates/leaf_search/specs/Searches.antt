-- What a search of a key leaves: its leaf in hand, and how that was found.
use Rattle.std.specs.Prelude.{ℕ, ◌≡◌, ◌≢◌, ◌+◌, ◌⊎◌, true, [], ◌∷◌}
use Rattle.key_tuple.specs.Order.{FieldList}
use Rattle.key_tuple.specs.declared.mode.Mode.TheVariants as mode
use Rattle.latch_space.specs.Passes.{count, view}
use Rattle.map_history.specs.Columns.{may_stand}
use Rattle.map_history.specs.Report.{Columns}
use Rattle.map_history.specs.declared.columns.How.TheVariants as how
use Rattle.search_info.specs.declared.knows.Knows.{Knows}
use Rattle.forest_law.specs.declared.objects.Frame.{Frame}
use Rattle.forest_law.specs.Numbers.{frame_id}
use Rattle.forest_world.specs.Held.{TreePass, shape_of_pass}
use Rattle.call_law.specs.Hands.{KnowsFrame}
use Rattle.call_law.specs.Trace.{Added, frame_references}
use Rattle.buffer_pool.specs.AsTaken.{AreAsTaken}
use Rattle.buffer_pool.specs.Calls.{DoesSilently}
use Rattle.buffer_pool.specs.Hands.{LacksFrame}
use Rattle.tree_descent.specs.Descents.{AddsPath}
use Rattle.tree_descent.specs.Leaves.{cut_in, IsLeafFor}
use Rattle.leaf_search.specs.declared.searched.Searched.{Searched}
use Rattle.leaf_search.specs.Taught.{HoldsAsFound}
use Rattle.search_info.specs.Tries.{TriesAfter}

-- the two columns of what such a search told
abbrev pub columns_found : Searched → Columns
columns_found s = record { how = s.how; note = s.note }

-- the hash led to the page, and no frame was given back; or of the references of frames that were
-- added the last are the path from the root to the page n
abbrev pub CameTo : TreePass → ℕ → FieldList → Searched → ℕ → Added → Type 0
CameTo p i key s n added = ((s.how ≡ how.Hit) × (frame_references added.references ≡ []))
    ⊎ ((s.how ≢ how.Hit) × AddsPath p (cut_in (shape_of_pass p) i mode.Ge key) i 0 n added)

-- the leaf with the key's position is held besides; each frame that kept its page was given back as
-- it was taken, and the leaf's is held so, or as the descent left it
pub record Searches (p : TreePass) (l : Knows) (i : ℕ) (key : FieldList) (s : Searched)
    (q : TreePass) (m : Knows) : Type 0 where
  pub silently : DoesSilently p q (frame_id (shape_of_pass p) s.leaf.block ∷ [])
  pub as_taken : AreAsTaken silently.added.references
  pub as_found : HoldsAsFound (view q) (shape_of_pass p) s.leaf.block i m s.how
  pub lacked : LacksFrame p s.leaf.block
  pub frame : Frame
  pub knows : KnowsFrame (view q) s.leaf.block frame
  pub is : IsLeafFor (shape_of_pass p) frame i mode.Ge key s.leaf.spot
  pub came : CameTo p i key s is.page.is.page.head.number silently.added
  pub stands : may_stand (columns_found s) ≡ true
  pub tried : TriesAfter l i s.how m
  pub count : count q ≡ count p + 1
