-- The lanes so far are counted.
use Rattle.std.proofs.Common.{map, take}
use Rattle.std.specs.List.{flat_map, zip}
use Rattle.column_counts.specs.Counted.{AreCounts}
use Rattle.map_history.specs.LegalReport.{columns_in}
use Rattle.report_reading.specs.Told.{lines_seen, lane_asked}
use Rattle.report_reading.proofs.counts.count_lanes.Given as goal

abbrev pub invariant-loop-lane : goal.invariant-loop-lane
invariant-loop-lane l = AreCounts l.indexes (λ i. flat_map (λ x. columns_in i (zip x.0 x.1)) (take l.lane (zip (map lane_asked l.lanes) (map lines_seen l.told)))) l.counts.items
