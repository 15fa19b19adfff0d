-- What is looked at lies among the heads.
use Rattle.std.proofs.Common.{◌≤◌, ◌-◌, length}
use Rattle.index_page.proofs.heads.Heads.below.Given as goal

abbrev pub invariant-loop-low : goal.invariant-loop-low
invariant-loop-low g l = (l.low ≤ l.high) × (l.high ≤ length l.self.heads.items)

abbrev pub decreases-loop-low : goal.decreases-loop-low
decreases-loop-low g l = l.high - l.low
