use Rattle.std.proofs.Common.{arith}
use Rattle.block_ages.proofs.LowsLemmas.{lows_lead}
use Rattle.block_ages.proofs.ages.first.Goals as goal

pub lowest_of-requires : goal.lowest_of-requires
lowest_of-requires c =
    let one = c.requires.lows.each c.lowest_in-run.result c.lowest_in-run.ensures.below in
    omega (arith, one.below, one.within)

pub returns-clause-found : goal.returns-clause-found
returns-clause-found c = lows_lead c.args.ages.now c.args.lows.now c.requires.lows c.lowest_in-run.result c.lowest_of.result
    c.lowest_in-run.ensures c.lowest_of.ensures
