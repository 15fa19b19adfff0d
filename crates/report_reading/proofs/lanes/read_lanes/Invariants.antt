-- The lanes so far, and those that are left, are what the lines are read to.
use Rattle.std.proofs.Common.{◌≡◌, drop, map}
use Rattle.std.specs.List.{enumerate_from}
use Rattle.report_forms.specs.Lists.{read_each}
use Rattle.report_forms.specs.Reports.{read_lane}
use Rattle.report_reading.specs.Told.{lines_seen, lane_asked}
use Rattle.report_reading.proofs.LoopLemmas.{joined}
use Rattle.report_reading.proofs.lanes.read_lanes.Given as goal

abbrev pub invariant-loop-lane : goal.invariant-loop-lane
invariant-loop-lane l = joined (map lines_seen l.told.items) (read_each (read_lane l.fields) (enumerate_from l.lane (map lane_asked (drop l.lane l.lanes))) l.text) ≡ read_each (read_lane l.fields) (enumerate_from 0 (map lane_asked l.lanes)) l.fn.text
