use Rattle.std.proofs.Common.{◌≤◌, ◌-◌}
use Rattle.key_tuple.specs.Figures.{equal_bytes}
use Rattle.page_search.proofs.words.first_apart.Given as goal

-- the bytes so far are equal
abbrev pub invariant-loop-at : goal.invariant-loop-at
invariant-loop-at l = l.at ≤ equal_bytes l.left l.right

abbrev pub decreases-loop-at : goal.decreases-loop-at
decreases-loop-at l = l.last - l.at
