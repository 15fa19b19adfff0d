-- The piece without rows that ends a scan on the last leaf.
use Rattle.std.specs.Prelude.{ℕ, ◌≡◌, ◌≤◌, true, false, None, [], ◌∷◌, length}
use Rattle.std.specs.List.{AllByRecursion}
use mathlib.Core.Option.{some}
use lib.ListN.{get_elem?}
use Rattle.key_tuple.specs.KeyPlace.{KeyPlace, At, End, before}
use Rattle.latch_space.specs.Passes.{view}
use Rattle.map_history.specs.Operation.{Ask}
use Rattle.map_history.specs.Report.{Columns}
use Rattle.index_page.specs.Rows.{Row}
use Rattle.index_law.specs.State.{Entries}
use Rattle.forest_law.specs.Numbers.{frame_id}
use Rattle.forest_law.specs.State.{bound}
use Rattle.forest_world.specs.Held.{TreePass, shape_of_pass}
use Rattle.call_law.specs.Spoken.{View}
use Rattle.call_law.specs.Trace.{Added, frame_references}
use Rattle.buffer_pool.specs.AsTaken.{KeepsAsHeld}
use Rattle.buffer_pool.specs.Calls.{Does}
use Rattle.tree_facts.specs.TreeFrames.{low_of}
use Rattle.tree_descent.specs.Ways.{HoldsPage}
use Rattle.tree_neighbours.specs.LeafHands.{IsLeafReference}
use Rattle.scan_law.specs.ScanLaws.{ReadRange}
use Rattle.said_scans.specs.Ranges.{range_said}

-- the pass holds the last leaf of the index in the block's frame, and each of its rows is before the
-- place, which is within the leaf's bounds
pub record HoldsEnd (v : View) (b i : ℕ) (place : KeyPlace) : Type 0 where
  pub holds : HoldsPage v b i 0
  pub last : bound holds.frame.high ≡ None
  pub low : before place (low_of holds.frame) ≡ false
  pub none : AllByRecursion (λ (x : Row). before (At x.key) place ≡ true) holds.is.page.rows

-- no row from the place to the end of all keys
abbrev pub empty_range : KeyPlace → (point : ℕ) → Columns → ReadRange
empty_range place point columns = record {
  low = place;
  high = End;
  piece = record { point = point; rows = []; columns = columns };
}

-- This alone was said, at a point no less than what was seen, and which is seen then. Nothing is held,
-- and the leaf was given back, no tree, as it was in hand.
pub record TellsEmpty (p : TreePass) (b i : ℕ) (ask : Ask) (place : KeyPlace) (columns : Columns)
    (point : ℕ) (q : TreePass) : Type 0 where
  pub added : Added
  pub does : Does p q (frame_id (shape_of_pass p) b ∷ []) added
  pub said : added.said ≡ range_said i (view p).low ask (empty_range place point columns) ∷ []
  pub leaves : AllByRecursion (IsLeafReference (shape_of_pass p) i)
      (frame_references added.references)
  pub keeps : KeepsAsHeld (view p) (view q) added.references
  pub least : (ys : Entries) → get_elem? (view p).seen i ≡ some ys → length ys ≤ point
  pub most : (zs : Entries) → get_elem? (view q).seen i ≡ some zs → point ≤ length zs
