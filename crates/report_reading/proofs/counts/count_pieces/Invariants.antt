-- The pieces so far are counted.
use Rattle.std.proofs.Common.{[], ◌==◌, cond, map, take}
use Rattle.report_reading.specs.Counts.{CountsMore, piece_columns}
use Rattle.report_reading.proofs.counts.count_pieces.Given as goal

abbrev pub invariant-loop-place : goal.invariant-loop-place
invariant-loop-place l = CountsMore l.fn.counts l.counts (λ i. cond (l.index == i) (map piece_columns (take l.place l.pieces)) [])
