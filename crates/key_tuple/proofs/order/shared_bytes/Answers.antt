use Rattle.std.proofs.Common.{◌≡◌, length, min, arith}
use Rattle.key_tuple.proofs.OrderLemmas.{equal_bytes-end, bytes_agree, bytes_differ}
use Rattle.key_tuple.proofs.order.shared_bytes.Goals as goal

pub returns : goal.returns
returns c =
    let all : c.loop-i.i ≡ min (length c.args.left.now) (length c.args.right.now) = omega (arith, c.min-most.ensures, c.loop-i-test.false, c.loop-i.auto.i-end) in
    let end = equal_bytes-end c.args.left.now c.args.right.now in
    let so_far = rw all at c.loop-i.invariant in
    omega (arith, so_far, c.min-most.ensures)

pub loop-i-preserved : goal.loop-i-preserved
loop-i-preserved c = bytes_agree c.args.left.now c.args.right.now c.loop-i.i
    (omega (arith, c.loop-i-test.true, c.min-most.ensures)) (omega (arith, c.loop-i-test.true, c.min-most.ensures))
    c.loop-i.invariant c.if-left-i.false

pub returns-then-left-i : goal.returns-then-left-i
returns-then-left-i c = bytes_differ c.args.left.now c.args.right.now c.loop-i.i
    (omega (arith, c.loop-i-test.true, c.min-most.ensures)) (omega (arith, c.loop-i-test.true, c.min-most.ensures))
    c.loop-i.invariant c.if-left-i.true
