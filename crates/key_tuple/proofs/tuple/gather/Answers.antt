use Rattle.std.proofs.Common.{◌≡◌, ap, ◌∙◌, length, get_or, arith, sym, take, [], ◌∷◌, ◌++◌}
use Rattle.key_tuple.specs.Order.{byte_count}
use Rattle.key_tuple.proofs.PartsLemmas.{byte_count-take-le}
use Rattle.std.proofs.lemmas.List.{take_all, length-map, length-take}
use Rattle.key_tuple.proofs.CopyLemmas.{bytes_of, one_more}
use Rattle.key_tuple.proofs.tuple.gather.Goals as goal

pub push-requires-clause-short : goal.push-requires-clause-short
push-requires-clause-short c =
    let so_far = ap byte_count c.loop-field.invariant in
    let next : length c.deref.result.now ≡ length (get_or c.args.fields.now c.loop-field.field-index c.field-item.result).items = ap length c.deref.ensures.value ∙ ap (λ f. length f.items) c.field-item.is in
    let most = byte_count-take-le (λ f. f.items) c.args.fields.now c.loop-field.field-index c.field-item.result (omega arith) in
    omega (arith, c.requires.total, c.requires.short)

pub loop-field-preserved : goal.loop-field-preserved
loop-field-preserved c = let fields = c.args.fields.now in
    let next = one_more fields c.loop-field.field-index c.field-item.result c.loop-field-test.true c.field-item.is in
    c.in_ok-push.ensures.ok ∙ (λ j. c.loop-field.invariant j ++ c.deref.ensures.value j ∷ []) ∙ sym next

pub returns : goal.returns
returns c = c.loop-field.invariant
    ∙ ap bytes_of (take_all c.loop-field.field-index c.args.fields.now c.loop-field-test.false)

pub push-requires-clause-slot : goal.push-requires-clause-slot
push-requires-clause-slot c = let so_far = take c.loop-field.field-index c.args.fields.now in
    let count : length c.loop-field.buffer.fields ≡ length so_far = ap length c.loop-field.invariant ∙ length-map so_far (λ f. f.items) in
    omega (arith, count, length-take c.loop-field.field-index c.args.fields.now, c.requires.few, c.loop-field-test.true)
