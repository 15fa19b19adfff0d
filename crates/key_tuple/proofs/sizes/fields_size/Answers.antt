use Rattle.std.proofs.Common.{◌≡◌, ◌≤◌, ◌+◌, sum_by, get_or, take, [], arith, ap, ◌∙◌}
use Rattle.std.proofs.lemmas.List.Sums.{sum_by-take-le, sum_by_more_le}
use Rattle.key_tuple.specs.Sizes.{field_size}
use Rattle.key_tuple.proofs.SizeLemmas.{sizes_le, size_after}
use Rattle.key_tuple.proofs.sizes.fields_size.Goals as goal

pub overflow_add-size : goal.overflow_add-size
overflow_add-size c =
    let tuple = c.args.tuple.now.fields in
    let next : c.size_with_length-size.result ≡ field_size (get_or tuple c.loop-i.i []) = rw (c.size_with_length-size.ensures, c.field.ensures.bytes) in
    let so_far : sum_by field_size (take c.loop-i.i tuple) + field_size (get_or tuple c.loop-i.i []) ≤ sum_by field_size tuple = sum_by_more_le field_size tuple c.loop-i.i [] (omega arith) in
    omega (arith, sizes_le tuple, c.is_within_limits.ensures.few, c.is_within_limits.ensures.short, c.loop-i.invariant)

pub returns-clause-most : goal.returns-clause-most
returns-clause-most c =
    let tuple = c.args.tuple.now.fields in
    let so_far : sum_by field_size (take c.loop-i.i tuple) ≤ sum_by field_size tuple = sum_by-take-le field_size tuple c.loop-i.i in
    omega (arith, sizes_le tuple, c.is_within_limits.ensures.few, c.is_within_limits.ensures.short, c.loop-i.invariant)

pub loop-i-preserved : goal.loop-i-preserved
loop-i-preserved c = size_after c.args.tuple.now.fields c.loop-i.i c.loop-i.size c.size_with_length-size.result
    (omega (arith, c.loop-i-test.true, c.count-i-end.ensures)) c.loop-i.invariant
    (c.size_with_length-size.ensures ∙ ap field_size c.field.ensures.bytes)
