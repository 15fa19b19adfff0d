-- Counts that are those of the columns of indexes.
use Rattle.std.specs.Prelude.{ℕ, ◌≡◌, Some, List, length}
use Rattle.std.specs.List.{slice_get}
use Rattle.map_history.specs.declared.counts.Counts.{Counts}
use Rattle.map_history.specs.Report.{Columns}
use Rattle.map_history.specs.Statistics.{counts_of}

-- there are counts for each of so many indexes, and they are those of the index's columns
pub record AreCounts (indexes : ℕ) (columns : ℕ → List Columns) (all : List Counts) : Type 0 where
  pub long : length all ≡ indexes
  pub each : (i : ℕ) (counts : Counts) → slice_get all i ≡ Some counts
      → counts ≡ counts_of (columns i)
