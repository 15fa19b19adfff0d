use Rattle.std.proofs.Common.{◌≡◌, length}
use Rattle.base_tests.proofs.merges.log_of.Given as goal

abbrev pub invariant-loop-i : goal.invariant-loop-i
invariant-loop-i g l = (length l.log.noted ≡ l.i) × (l.log.room ≡ l.count)
