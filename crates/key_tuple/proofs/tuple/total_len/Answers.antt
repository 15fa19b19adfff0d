use Rattle.std.proofs.Common.{◌≡◌, length, arith}
use Rattle.key_tuple.proofs.CopyLemmas.{one_more_count}
use Rattle.key_tuple.proofs.tuple.total_len.Goals as goal

pub loop-field-preserved : goal.loop-field-preserved
loop-field-preserved c = let item = c.field-item.result in
    let next = one_more_count c.args.fields.now c.loop-field.field-index item c.loop-field-test.true c.field-item.is in
    let len : c.len.result ≡ length item.items = omega (arith, c.len.ensures, item.ok.0) in
    omega (arith, c.in_ok-total.ensures.1, c.loop-field.invariant, next, len)
