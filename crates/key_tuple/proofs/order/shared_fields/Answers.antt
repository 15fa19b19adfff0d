-- The fields are equal up to the first that differs.
use Rattle.std.proofs.Common.{◌<◌, length, arith, ◌≡◌, ◌≤◌, drop, ap}
use Rattle.key_tuple.proofs.OrderLemmas.{fields_differ, fields_agree}
use Rattle.std.proofs.lemmas.List.{drop_all}
use Rattle.key_tuple.specs.Order.{FieldList}
use Rattle.key_tuple.specs.Figures.{equal_fields}
use Rattle.key_tuple.proofs.order.shared_fields.Goals as goal

pub returns-then-ne-clause-equal : goal.returns-then-ne-clause-equal
returns-then-ne-clause-equal g c =
    let tuple = g.A.Fields.fields_of c.args.tuple.now in
    let key = g.B.Fields.fields_of c.args.key.now in
    let in_tuple : c.loop-i.i < length tuple = omega (arith, c.count-i-end.ensures, c.loop-i-test.true) in
    let in_key : c.loop-i.i < length key = omega (arith, c.count-i-end.ensures, c.loop-i-test.true, c.requires) in
    fields_differ tuple key c.loop-i.i c.field.result.now c.field-in-loop-i.result.now in_tuple in_key
    c.loop-i.invariant c.field.ensures.bytes c.field-in-loop-i.ensures.bytes c.if-ne.ensures

pub loop-i-preserved : goal.loop-i-preserved
loop-i-preserved g c =
    let tuple = g.A.Fields.fields_of c.args.tuple.now in
    let key = g.B.Fields.fields_of c.args.key.now in
    let in_tuple : c.loop-i.i < length tuple = omega (arith, c.count-i-end.ensures, c.loop-i-test.true) in
    let in_key : c.loop-i.i < length key = omega (arith, c.count-i-end.ensures, c.loop-i-test.true, c.requires) in
    fields_agree tuple key c.loop-i.i c.field.result.now c.field-in-loop-i.result.now in_tuple in_key
    c.loop-i.invariant c.field.ensures.bytes c.field-in-loop-i.ensures.bytes c.if-ne.ensures

pub returns-clause-equal : goal.returns-clause-equal
returns-clause-equal g c =
    let tuple = g.A.Fields.fields_of c.args.tuple.now in
    let key = g.B.Fields.fields_of c.args.key.now in
    let all : length tuple ≤ c.loop-i.i = omega (arith, c.count-i-end.ensures, c.loop-i-test.false) in
    let rest : equal_fields (drop c.loop-i.i tuple) (drop c.loop-i.i key) ≡ 0 = ap (λ (rest : FieldList). equal_fields rest (drop c.loop-i.i key)) (drop_all c.loop-i.i tuple all) in
    omega (arith, rest, c.loop-i.invariant, c.count.ensures, c.count-i-end.ensures, all, c.loop-i.auto.i-end)

pub returns-then-ne-clause-within : goal.returns-then-ne-clause-within
returns-then-ne-clause-within g c = omega (arith, c.count-i-end.ensures, c.loop-i-test.true)
