use Rattle.std.proofs.Common.{◌≡◌, ◌++◌, take, drop}
use Rattle.column_counts.specs.Sums.{sums_of}
use Rattle.column_counts.proofs.sums.add_each.Given as goal

-- the counts before the index are added, and the others are as they were
abbrev pub invariant-loop-index : goal.invariant-loop-index
invariant-loop-index l = l.sums ≡ sums_of (take l.index l.fn.sums) (take l.index l.others) ++ drop l.index l.fn.sums
