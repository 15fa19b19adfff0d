use Rattle.std.proofs.Common.{◌≡◌, ◌+◌, ◌≤◌, length}
use Rattle.hash_upkeep.specs.Hashing.{row_entries}
use Rattle.hash_upkeep.specs.Walk.{IsOnWalk, entries_ahead}
use Rattle.hash_upkeep.proofs.entering.count_entries.Given as goal

abbrev pub invariant-loop-count : goal.invariant-loop-count
invariant-loop-count l = record {
  on : IsOnWalk l.how l.page.rows l.walk;
  counted : l.count + length (entries_ahead l.how l.page.rows l.walk)
      ≡ length (row_entries l.how l.page.rows);
  few : length (row_entries l.how l.page.rows) ≤ l._rows;
}

abbrev pub decreases-loop-count : goal.decreases-loop-count
decreases-loop-count l = length (entries_ahead l.how l.page.rows l.walk)
