use Rattle.std.proofs.Common.{arith}
use Rattle.column_counts.specs.Sums.{sum_of}
use Rattle.column_counts.proofs.StepLemmas.{join_more}
use Rattle.column_counts.proofs.sums.add_each.Goals as goal

pub loop-index-preserved : goal.loop-index-preserved
loop-index-preserved c = join_more sum_of c.args.sums.now c.args.others.now c.loop-index.sums c.loop-index.index _ _ c.add_counts.new.sum (omega (arith, c.loop-index-test.true, c.requires)) c.loop-index-test.true c.loop-index.invariant (c.in_ok-add_counts.ensures)
