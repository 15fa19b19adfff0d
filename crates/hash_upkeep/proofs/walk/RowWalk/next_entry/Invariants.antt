use Rattle.std.proofs.Common.{◌≡◌, length}
use Rattle.hash_upkeep.specs.Walk.{IsOnWalk, entries_ahead, nodes_from_node}
use Rattle.hash_upkeep.proofs.walk.RowWalk.next_entry.Given as goal

abbrev pub invariant-loop-self : goal.invariant-loop-self
invariant-loop-self l = record {
  on : IsOnWalk l.how l.page.rows l.self;
  ahead : entries_ahead l.how l.page.rows l.fn.self ≡ entries_ahead l.how l.page.rows l.self;
}

abbrev pub decreases-loop-self : goal.decreases-loop-self
decreases-loop-self l = length (nodes_from_node l.how l.page.rows l.self.ahead)
