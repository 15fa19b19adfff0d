use Rattle.std.proofs.Common.{◌≡◌, drop}
use Rattle.std.specs.Ordering.{nat_cmp}
use Rattle.std.specs.Cmp.Lexicographic.{slice_cmp}
use Rattle.key_tuple.proofs.order.compare_bytes.Given as goal

-- the bytes so far are equal, so those that are left decide
abbrev pub invariant-loop-i : goal.invariant-loop-i
invariant-loop-i l = slice_cmp nat_cmp l.left l.right ≡ slice_cmp nat_cmp (drop l.i l.left) (drop l.i l.right)
