use Rattle.std.proofs.Common.{take, drop}
use Rattle.index_page.specs.Store.{Appends}
use Rattle.index_page.proofs.heap.Heap.append.Given as goal

-- so many of the others are behind
abbrev pub invariant-loop-i : goal.invariant-loop-i
invariant-loop-i l = Appends l.fn.self l.self (take l.i (drop l.first l.others))
