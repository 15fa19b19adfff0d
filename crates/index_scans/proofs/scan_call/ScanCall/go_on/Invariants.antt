use Rattle.std.proofs.Common.{◌<◌, [], length}
use Rattle.latch_space.specs.Passes.{view, IsSamePass}
use Rattle.latch_space.specs.Spaces.{IsPassOf}
use Rattle.tree_neighbours.specs.LeafHands.{HoldsLeavesAlone}
use Rattle.tree_cursor.specs.Pieces.{fields_lent}
use Rattle.index_scans.specs.ScanSteps.{GoesFrom}
use Rattle.index_scans.proofs.LoopLemmas.{GoesSoFar}
use Rattle.index_scans.proofs.scan_call.ScanCall.go_on.Given as goal

abbrev pub invariant-loop : goal.invariant-loop
invariant-loop g l = record {
  own : IsSamePass l.fn.pass l.pass × IsPassOf l.self.space.now l.pass;
  nothing : HoldsLeavesAlone l.pass [];
  from : GoesFrom (view l.pass) l.self.index l.cursor;
  left : length l.rows < l.self.limit;
  goes : GoesSoFar l.fn.pass l.self.index l.self.from.now.fields (fields_lent l.self.to)
      l.self.limit l.fn.cursor l.fn.pieces.items l.fn.rows l.pieces.items l.pass l.cursor l.rows;
}
