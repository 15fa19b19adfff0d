use Rattle.std.specs.Prelude.{Some}
use Rattle.block_ages.proofs.OrderLemmas.{IsBest}
use Rattle.block_ages.proofs.ages.next_behind.Given as goal

abbrev pub invariant-loop-block : goal.invariant-loop-block
invariant-loop-block l = IsBest l.ages (Some l.last) l.block l.next
