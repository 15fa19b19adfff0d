use Rattle.std.proofs.Common.{◌≡◌, ◌≤◌}
use Rattle.gen_law.specs.Counts.{is_put, is_del}
use Rattle.row_count.proofs.RowLemmas.{count_upto}
use Rattle.row_count.proofs.counting.rows_after.Given as goal

-- the puts and dels so far are counted, and are no more than the changes
abbrev pub invariant-loop-change : goal.invariant-loop-change
invariant-loop-change l = record {
  puts : l.puts ≡ count_upto is_put l.changes l.change-index;
  dels : l.dels ≡ count_upto is_del l.changes l.change-index;
  few : (l.puts ≤ l.change-index) × (l.dels ≤ l.change-index);
}
