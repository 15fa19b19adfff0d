use Rattle.std.proofs.Common.{◌≡◌, [], length, replicate, drop}
use Rattle.map_history.specs.Statistics.{counts_of}
use Rattle.column_counts.specs.Sums.{all_sums, count_lists}
use Rattle.column_counts.proofs.sums.add_up.Given as goal

-- what is left, added to the sums so far, is all
abbrev pub invariant-loop-list : goal.invariant-loop-list
invariant-loop-list l = record {
  all : all_sums l.sums.items (count_lists (drop l.list-index l.lists)) ≡ all_sums (replicate l.indexes (counts_of [])) (count_lists l.lists);
  long : length l.sums.items ≡ l.indexes;
}
