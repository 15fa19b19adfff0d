use Rattle.std.proofs.Common.{◌+◌, sym, subst}
use Rattle.block_ages.specs.Lows.{IsLowestIn}
use Rattle.block_ages.proofs.LowsLemmas.{lower_is_lowest, lowest_stays}
use Rattle.block_ages.proofs.lowest.lowest_in.Goals as goal
use Rattle.block_ages.proofs.lowest.lowest_in.Goals.{then-numbers-i, else-numbers-i}

pub loop-i-preserved : goal.loop-i-preserved
loop-i-preserved c =
    let lowest = c.loop-i.invariant in
    elim c.if-numbers-i.branch [
      | then-numbers-i w ↦ subst (IsLowestIn c.args.numbers.now c.args.from (c.loop-i.i + 1)) (sym w.lowest-is) (lower_is_lowest c.args.numbers.now c.args.from c.loop-i.i c.loop-i.lowest lowest w.if-numbers-i.true)
      | else-numbers-i w ↦ subst (IsLowestIn c.args.numbers.now c.args.from (c.loop-i.i + 1)) (sym w.lowest-is) (lowest_stays c.args.numbers.now c.args.from c.loop-i.i c.loop-i.lowest lowest w.if-numbers-i.false)
    ]
