use Rattle.std.proofs.Common.{◌≡◌, ◌+◌, drop}
use Rattle.key_tuple.specs.Figures.{equal_bytes}
use Rattle.page_search.proofs.comparing.order_from.Given as goal

-- the bytes so far are equal
abbrev pub invariant-loop-i : goal.invariant-loop-i
invariant-loop-i l = equal_bytes l.left l.right ≡ l.i + equal_bytes (drop l.i l.left) (drop l.i l.right)
