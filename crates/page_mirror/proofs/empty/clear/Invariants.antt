use Rattle.page_mirror.specs.Empty.{Clears}
use Rattle.page_mirror.proofs.empty.clear.Given as goal

abbrev pub invariant-loop-k : goal.invariant-loop-k
invariant-loop-k l = Clears l.initial.page l.page l.from l.k
