use Rattle.std.proofs.Common.{◌≡◌, ◌∙◌, ◌+◌, ◌<◌, length, min, arith}
use Rattle.key_tuple.specs.Figures.{equal_bytes}
use Rattle.key_tuple.proofs.OrderLemmas.{equal_bytes-end}
use Rattle.page_search.proofs.ByteLemmas.{skip_bytes, equal_within, equal_below, ends_here, behind_within, behind_end}
use Rattle.page_search.proofs.FourLemmas.{byte_more}
use Rattle.page_search.proofs.comparing.order_from.Goals as goal

pub loop-i-init : goal.loop-i-init
loop-i-init c = skip_bytes c.args.left.now c.args.right.now c.skip_fours-near.result c.skip_fours-near.ensures

pub loop-i-preserved : goal.loop-i-preserved
loop-i-preserved c =
    let i = c.loop-i.i in
    let in_left : i < length c.args.left.now = omega (arith, c.min-most.ensures, c.loop-i-test.true) in
    let in_right : i < length c.args.right.now = omega (arith, c.min-most.ensures, c.loop-i-test.true) in
    omega (arith, c.loop-i.invariant, byte_more c.args.left.now c.args.right.now i (i + 1) (omega arith) in_left in_right c.if-left-i.false)

pub returns-then-left-i-clause-equal : goal.returns-then-left-i-clause-equal
returns-then-left-i-clause-equal c =
    let i = c.loop-i.i in
    let in_left : i < length c.args.left.now = omega (arith, c.min-most.ensures, c.loop-i-test.true) in
    let in_right : i < length c.args.right.now = omega (arith, c.min-most.ensures, c.loop-i-test.true) in
    ends_here c.args.left.now c.args.right.now i in_left in_right c.if-left-i.true c.loop-i.invariant

pub returns-then-left-i-clause-order : goal.returns-then-left-i-clause-order
returns-then-left-i-clause-order c =
    let i = c.loop-i.i in
    let in_left : i < length c.args.left.now = omega (arith, c.min-most.ensures, c.loop-i-test.true) in
    let in_right : i < length c.args.right.now = omega (arith, c.min-most.ensures, c.loop-i-test.true) in
    let equal = ends_here c.args.left.now c.args.right.now i in_left in_right c.if-left-i.true c.loop-i.invariant in
    c.cmp.ensures ∙ behind_within c.args.left.now c.args.right.now i equal in_left in_right

pub returns-clause-equal : goal.returns-clause-equal
returns-clause-equal c =
    let all : c.loop-i.i ≡ min (length c.args.left.now) (length c.args.right.now) =
    omega (arith, c.min-most.ensures, c.loop-i-test.false, c.loop-i.auto.i-end, c.skip_fours-near.ensures, equal_within c.args.left.now c.args.right.now, equal_below c.args.left.now c.args.right.now) in
    let end = equal_bytes-end c.args.left.now c.args.right.now in
    let so_far = rw all at c.loop-i.invariant in
    omega (arith, so_far, c.min-most.ensures)

pub returns-clause-order : goal.returns-clause-order
returns-clause-order c =
    let all : c.loop-i.i ≡ min (length c.args.left.now) (length c.args.right.now) =
    omega (arith, c.min-most.ensures, c.loop-i-test.false, c.loop-i.auto.i-end, c.skip_fours-near.ensures, equal_within c.args.left.now c.args.right.now, equal_below c.args.left.now c.args.right.now) in
    let end = equal_bytes-end c.args.left.now c.args.right.now in
    let so_far = rw all at c.loop-i.invariant in
    let equal : c.min-most.result ≡ equal_bytes c.args.left.now c.args.right.now = omega (arith, so_far, c.min-most.ensures) in
    c.cmp-2.ensures ∙ behind_end c.args.left.now c.args.right.now c.min-most.result equal (λ a b. omega (arith, a, b, c.min-most.ensures))
