use Rattle.std.proofs.Common.{◌≡◌, ◌++◌, take, drop}
use Rattle.column_counts.specs.Sums.{added}
use Rattle.column_counts.proofs.sums.add_counts.Given as goal

-- the numbers before the place are added, and the others are as they were
abbrev pub invariant-loop-place : goal.invariant-loop-place
invariant-loop-place l = l.sum.numbers ≡ added (take l.place l.fn.sum.numbers) (take l.place l.other.numbers) ++ drop l.place l.fn.sum.numbers
