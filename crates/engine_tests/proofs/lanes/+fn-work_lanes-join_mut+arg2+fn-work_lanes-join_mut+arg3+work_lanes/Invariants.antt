use Rattle.std.proofs.Common.{◌+◌, ◌*◌}
use Rattle.engine_tests.proofs.lanes.+fn-work_lanes-join_mut+arg2+fn-work_lanes-join_mut+arg3+work_lanes.Given as goal

-- a half is worked with one halving less
abbrev pub decreases-join_mut+arg2 : goal.decreases-join_mut+arg2
decreases-join_mut+arg2 g l = 2 * l.rest + 1

abbrev pub decreases-join_mut+arg3 : goal.decreases-join_mut+arg3
decreases-join_mut+arg3 g l = 2 * l.rest + 1

abbrev pub decreases-work_lanes : goal.decreases-work_lanes
decreases-work_lanes g l = 2 * l.halvings
