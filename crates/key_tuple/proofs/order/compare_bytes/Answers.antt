-- The first byte that differs decides.
use Rattle.std.proofs.Common.{◌≡◌, length, min, ◌∙◌, sym, drop, arith}
use Rattle.std.specs.Ordering.{nat_cmp}
use Rattle.std.specs.Cmp.Lexicographic.{slice_cmp}
use Rattle.key_tuple.proofs.OrderLemmas.{byte_cmp-drop, byte_cmp-end, bytes_decide, bytes_pass}
use Rattle.key_tuple.proofs.order.compare_bytes.Goals as goal

pub returns-then-left-i : goal.returns-then-left-i
returns-then-left-i c =
    let next = byte_cmp-drop c.args.left.now c.args.right.now c.loop-i.i (omega (arith, c.loop-i-test.true, c.min-i-end.ensures)) (omega (arith, c.loop-i-test.true, c.min-i-end.ensures)) in
    c.cmp.ensures ∙ sym (c.loop-i.invariant ∙ next ∙ bytes_decide _ _ _ c.if-left-i.true)

pub loop-i-preserved : goal.loop-i-preserved
loop-i-preserved c =
    let next = byte_cmp-drop c.args.left.now c.args.right.now c.loop-i.i (omega (arith, c.loop-i-test.true, c.min-i-end.ensures)) (omega (arith, c.loop-i-test.true, c.min-i-end.ensures)) in
    c.loop-i.invariant ∙ next ∙ bytes_pass _ _ _ c.if-left-i.false

pub returns : goal.returns
returns c =
    let all : c.loop-i.i ≡ min (length c.args.left.now) (length c.args.right.now) = omega (arith, c.min-i-end.ensures, c.loop-i-test.false, c.loop-i.auto.i-end) in
    let so_far : slice_cmp nat_cmp c.args.left.now c.args.right.now ≡ slice_cmp nat_cmp (drop (min (length c.args.left.now) (length c.args.right.now)) c.args.left.now) (drop (min (length c.args.left.now) (length c.args.right.now)) c.args.right.now) = rw all at c.loop-i.invariant in
    c.cmp-2.ensures ∙ sym (so_far ∙ byte_cmp-end c.args.left.now c.args.right.now)
