use Rattle.block_ages.specs.Lows.{IsLowestIn}
use Rattle.block_ages.proofs.lowest.lowest_in.Given as goal

abbrev pub invariant-loop-i : goal.invariant-loop-i
invariant-loop-i l = IsLowestIn l.numbers l.from l.i l.lowest
