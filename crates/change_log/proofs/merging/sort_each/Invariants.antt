use Rattle.change_log.proofs.SortLemmas.{SortsFirst}
use Rattle.change_log.proofs.merging.sort_each.Given as goal

-- the lists so far are sorted, and the others are as they were
abbrev pub invariant-loop-i : goal.invariant-loop-i
invariant-loop-i l = SortsFirst l.i l.initial.lists.items l.lists.items
