use Rattle.std.proofs.Common.{◌≡◌, ◌≤◌, length, drop, vec_capacity}
use Rattle.std.specs.Vec.Iter.{into_iter_items, into_iter_len}
use Rattle.lane_threads.proofs.BuildLemmas.{AreBuilt}
use Rattle.lane_threads.proofs.readying.ready_lanes.Given as goal

-- the passes behind the place are left, and the doers before it are made, with room for all
abbrev pub invariant-loop-lines : goal.invariant-loop-lines
invariant-loop-lines l = record {
  rest : into_iter_items l.given ≡ drop l.lines-index l.fn.passes.items;
  count : into_iter_len l.given ≡ length (into_iter_items l.given);
  made : length l.doers.items ≡ l.lines-index;
  room : length l.lanes ≤ vec_capacity l.doers;
  built : AreBuilt l.engine l.fn.passes.items l.lanes l.lines-index l.doers.items;
}
