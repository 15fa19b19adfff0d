use Rattle.std.proofs.lemmas.List.{take_all}
use Rattle.std.proofs.Common.{◌≡◌, ◌≤◌, ◌+◌, sum_by, get_or, take, [], arith, ap, sym, ◌∙◌}
use Rattle.std.proofs.lemmas.List.Sums.{sum_by-take-le, sum_by_more_le, sum_by_more}
use Rattle.key_tuple.specs.Sizes.{field_size}
use Rattle.key_tuple.proofs.SizeLemmas.{sizes_le}
use Rattle.index_page.proofs.charges.fields_size.Goals as goal

pub overflow_add-size : goal.overflow_add-size
overflow_add-size g c =
    let fields = g.A.Fields.fields_of c.args.key.now in
    let next : c.size_with_length-size.result ≡ field_size (get_or fields c.loop-i.i []) = rw (c.size_with_length-size.ensures.size, c.field.ensures.bytes) in
    let so_far : sum_by field_size (take c.loop-i.i fields) + field_size (get_or fields c.loop-i.i []) ≤ sum_by field_size fields = sum_by_more_le field_size fields c.loop-i.i [] (omega arith) in
    omega (arith, sizes_le fields, c.requires.few, c.requires.short, c.loop-i.invariant)

pub returns-clause-most : goal.returns-clause-most
returns-clause-most g c =
    let fields = g.A.Fields.fields_of c.args.key.now in
    let so_far : sum_by field_size (take c.loop-i.i fields) ≤ sum_by field_size fields = sum_by-take-le field_size fields c.loop-i.i in
    omega (arith, sizes_le fields, c.requires.few, c.requires.short, c.loop-i.invariant)

pub loop-i-preserved : goal.loop-i-preserved
loop-i-preserved g c =
    let fields = g.A.Fields.fields_of c.args.key.now in
    let next : c.size_with_length-size.result ≡ field_size (get_or fields c.loop-i.i []) = rw (c.size_with_length-size.ensures.size, c.field.ensures.bytes) in
    ap (λ n. n + c.size_with_length-size.result) c.loop-i.invariant ∙ ap (λ n. sum_by field_size (take c.loop-i.i fields) + n) next ∙ sym (sum_by_more field_size fields c.loop-i.i [] (omega arith))

pub returns-clause-size : goal.returns-clause-size
returns-clause-size g c =
    c.loop-i.invariant ∙ ap (sum_by field_size) (take_all c.loop-i.i (g.A.Fields.fields_of c.args.key.now) (omega (arith, c.loop-i-test.false, c.count-i-end.ensures)))
