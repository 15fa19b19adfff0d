use Rattle.std.proofs.Common.{◌<◌, length, refl, arith}
use Rattle.std.proofs.lemmas.Option.{slice_get_read}
use Rattle.change_log.proofs.SortLemmas.{sorts_all, sorts_as_many, sorts_next}
use Rattle.change_log.proofs.merging.sort_each.Goals as goal

pub loop-i-init : goal.loop-i-init
loop-i-init c = refl

pub loop-i-preserved : goal.loop-i-preserved
loop-i-preserved c =
    let many = sorts_as_many c.loop-i.i c.args.lists.now.items c.loop-i.lists.items c.loop-i.invariant in
    let below : c.loop-i.i < length c.loop-i.lists.items = omega (arith, many, c.loop-i-test.true, c.len-i-end.ensures) in
    let was = slice_get_read c.loop-i.lists.items _ c.loop-i.i c.index_mut.result.now refl below c.index_mut.ensures.value in
    sorts_next c.loop-i.i c.args.lists.now.items c.loop-i.lists.items c.index_mut.result.now c.sort.new.list was c.in_ok-sort.ensures c.loop-i.invariant

pub returns : goal.returns
returns c = sorts_all c.loop-i.i c.args.lists.now.items c.loop-i.lists.items (omega (arith, c.loop-i-test.false, c.len-i-end.ensures)) c.loop-i.invariant
