-- How counts of columns add up.
use Rattle.std.specs.Prelude.{ℕ, ◌≡◌, List, [], ◌++◌, replicate}
use Rattle.std.specs.List.{AllZip, flat_map}
use Rattle.map_history.specs.declared.counts.Counts.{Counts}
use Rattle.map_history.specs.Report.{Columns}
use Rattle.map_history.specs.Statistics.{counts_of}
use Rattle.column_counts.specs.Counted.{AreCounts}
use Rattle.column_counts.specs.Sums.{sum_of, all_sums}

-- The counts of columns in a row are the sums of those of both parts. Where each list counts the
-- columns of a lane, the sums of all lists count those of all lanes.
pub record CountsAddUp : Type 0 where
  pub parts : (xs ys : List Columns) → counts_of (xs ++ ys) ≡ sum_of (counts_of xs) (counts_of ys)
  pub lanes : (indexes : ℕ) (lanes : List (ℕ → List Columns)) (lists : List (List Counts))
      → AllZip (AreCounts indexes) lanes lists
      → AreCounts indexes (λ i. flat_map (λ (columns : ℕ → List Columns). columns i) lanes)
      (all_sums (replicate indexes (counts_of [])) lists)
