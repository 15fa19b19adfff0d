use Rattle.std.proofs.Common.{◌≡◌, ◌<◌, length, min, ◌∙◌, sym, drop, arith}
use Rattle.key_tuple.specs.Order.{key_cmp}
use Rattle.key_tuple.proofs.OrderLemmas.{key_cmp-drop, key_cmp-end, field_decides, field_passes}
use Rattle.key_tuple.proofs.order.compare_whole.Goals as goal

pub returns-then-ne : goal.returns-then-ne
returns-then-ne g c =
    let left = g.A.Fields.fields_of c.args.left.now in
    let right = g.B.Fields.fields_of c.args.right.now in
    let in_left : c.loop-i.i < length left = omega (arith, c.count.ensures, c.count-2.ensures, c.min-i-end.ensures, c.loop-i-test.true) in
    let in_right : c.loop-i.i < length right = omega (arith, c.count.ensures, c.count-2.ensures, c.min-i-end.ensures, c.loop-i-test.true) in
    field_decides key_cmp key_cmp-drop left right c.loop-i.i c.field.result.now c.field-in-loop-i.result.now c.compare_bytes-order.result in_left in_right
    c.loop-i.invariant c.field.ensures.bytes c.field-in-loop-i.ensures.bytes c.compare_bytes-order.ensures c.if-ne.ensures

pub loop-i-preserved : goal.loop-i-preserved
loop-i-preserved g c =
    let left = g.A.Fields.fields_of c.args.left.now in
    let right = g.B.Fields.fields_of c.args.right.now in
    let in_left : c.loop-i.i < length left = omega (arith, c.count.ensures, c.count-2.ensures, c.min-i-end.ensures, c.loop-i-test.true) in
    let in_right : c.loop-i.i < length right = omega (arith, c.count.ensures, c.count-2.ensures, c.min-i-end.ensures, c.loop-i-test.true) in
    field_passes key_cmp key_cmp-drop left right c.loop-i.i c.field.result.now c.field-in-loop-i.result.now c.compare_bytes-order.result in_left in_right
    c.loop-i.invariant c.field.ensures.bytes c.field-in-loop-i.ensures.bytes c.compare_bytes-order.ensures c.if-ne.ensures

pub returns : goal.returns
returns g c =
    let left = g.A.Fields.fields_of c.args.left.now in
    let right = g.B.Fields.fields_of c.args.right.now in
    let all : c.loop-i.i ≡ min (length left) (length right) = omega (arith, c.count.ensures, c.count-2.ensures, c.min-i-end.ensures, c.loop-i-test.false, c.loop-i.auto.i-end) in
    let end = key_cmp-end left right in
    let so_far : key_cmp left right ≡ key_cmp (drop (min (length left) (length right)) left) (drop (min (length left) (length right)) right) = rw all at c.loop-i.invariant in
    rw (c.cmp.ensures, c.count-3.ensures, c.count-4.ensures) (sym (so_far ∙ end))
