use Rattle.lane_threads.proofs.ReadyLemmas.{ready_is}
use Rattle.lane_threads.proofs.doer.ReadyLane.work.Goals as goal

pub work_lane-requires-clause-own : goal.work_lane-requires-clause-own
work_lane-requires-clause-own g c = (ready_is c.args.self.engine.now c.args.self.lane c.args.self.indexes c.args.self.pass c.args.self.lines.now c.args.self.ready).own

pub work_lane-requires-clause-lane : goal.work_lane-requires-clause-lane
work_lane-requires-clause-lane g c = (ready_is c.args.self.engine.now c.args.self.lane c.args.self.indexes c.args.self.pass c.args.self.lines.now c.args.self.ready).lane_is

pub work_lane-requires-clause-lines : goal.work_lane-requires-clause-lines
work_lane-requires-clause-lines g c = (ready_is c.args.self.engine.now c.args.self.lane c.args.self.indexes c.args.self.pass c.args.self.lines.now c.args.self.ready).lines_can

pub work_lane-requires-clause-indexes : goal.work_lane-requires-clause-indexes
work_lane-requires-clause-indexes g c = (ready_is c.args.self.engine.now c.args.self.lane c.args.self.indexes c.args.self.pass c.args.self.lines.now c.args.self.ready).indexes_are

pub returns : goal.returns
returns g c = record {
  same = c.work_lane.ensures.own.0;
  own = c.work_lane.ensures.own.1;
  works = c.in-Ok.ensures.ok;
}
