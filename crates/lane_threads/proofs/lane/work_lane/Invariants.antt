use Rattle.std.proofs.Common.{◌≡◌, ◌≤◌, length, take}
use Rattle.map_history.specs.Lines.{line_texts}
use Rattle.index_engine.specs.Engines.{IsOf, IsSame}
use Rattle.lane_threads.specs.Works.{Works}
use Rattle.lane_threads.proofs.lane.work_lane.Given as goal

-- the lines so far are worked, and there is room for as many notes as there are lines
abbrev pub invariant-loop-line : goal.invariant-loop-line
invariant-loop-line g l = record {
  same : IsSame l.fn.pass l.pass;
  own : IsOf l.engine l.pass;
  works : Works l.fn.pass l.pass (line_texts (take l.line-index l.lines)) l.work.answers l.work.log l.work.counts.items;
  room : l.work.log.room ≡ length l.lines;
  few : length l.work.log.noted ≤ l.line-index;
}
