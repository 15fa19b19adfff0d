use Rattle.std.proofs.Common.{◌≡◌, ◌≤◌, length, take}
use Rattle.index_page.proofs.heap.Heap.keep_first.Given as goal

-- the rows are the first ones that there were
abbrev pub invariant-loop-self : goal.invariant-loop-self
invariant-loop-self l = record {
  long : l.count ≤ length l.self;
  first : l.self ≡ take (length l.self) l.fn.self;
}

abbrev pub decreases-loop-self : goal.decreases-loop-self
decreases-loop-self l = length l.self
