-- The first field that differs decides.
use Rattle.std.proofs.Common.{◌<◌, length, arith, ◌≤◌, drop, sym, ap, ◌∙◌}
use Rattle.key_tuple.specs.Order.{FieldList, tuple_cmp}
use Rattle.key_tuple.proofs.OrderLemmas.{tuple_cmp-drop, field_decides, field_passes}
use Rattle.std.proofs.lemmas.List.{drop_all}
use Rattle.key_tuple.proofs.order.compare.Goals as goal

pub returns-then-ne : goal.returns-then-ne
returns-then-ne g c =
    let left = g.A.Fields.fields_of c.args.tuple.now in
    let right = g.B.Fields.fields_of c.args.key.now in
    let in_left : c.loop-i.i < length left = omega (arith, c.count-i-end.ensures, c.loop-i-test.true, c.requires) in
    let in_right : c.loop-i.i < length right = omega (arith, c.count-i-end.ensures, c.loop-i-test.true, c.requires) in
    field_decides tuple_cmp tuple_cmp-drop left right c.loop-i.i c.field.result.now c.field-in-loop-i.result.now c.compare_bytes-order.result in_left in_right
    c.loop-i.invariant c.field.ensures.bytes c.field-in-loop-i.ensures.bytes c.compare_bytes-order.ensures c.if-ne.ensures

pub loop-i-preserved : goal.loop-i-preserved
loop-i-preserved g c =
    let left = g.A.Fields.fields_of c.args.tuple.now in
    let right = g.B.Fields.fields_of c.args.key.now in
    let in_left : c.loop-i.i < length left = omega (arith, c.count-i-end.ensures, c.loop-i-test.true, c.requires) in
    let in_right : c.loop-i.i < length right = omega (arith, c.count-i-end.ensures, c.loop-i-test.true, c.requires) in
    field_passes tuple_cmp tuple_cmp-drop left right c.loop-i.i c.field.result.now c.field-in-loop-i.result.now c.compare_bytes-order.result in_left in_right
    c.loop-i.invariant c.field.ensures.bytes c.field-in-loop-i.ensures.bytes c.compare_bytes-order.ensures c.if-ne.ensures

pub returns : goal.returns
returns g c =
    let left = g.A.Fields.fields_of c.args.tuple.now in
    let right = g.B.Fields.fields_of c.args.key.now in
    let all : length left ≤ c.loop-i.i = omega (arith, c.count-i-end.ensures, c.loop-i-test.false) in
    sym (c.loop-i.invariant ∙ ap (λ (rest : FieldList). tuple_cmp rest (drop c.loop-i.i right)) (drop_all c.loop-i.i left all))
