use Rattle.std.proofs.Common.{◌≡◌, length, arith, sym}
use Rattle.std.proofs.lemmas.Option.{slice_get_read}
use Rattle.change_log.specs.Merge.{note_lists}
use Rattle.change_log.specs.Log.{note_of}
use Rattle.change_log.proofs.SpreadLemmas.{spread_here, spread_past, as_many}
use Rattle.change_log.proofs.lane_log.spread_one.Goals as goal

pub returns-in_ok-push : goal.returns-in_ok-push
returns-in_ok-push c =
    let len : c.len.result ≡ length c.args.lists.now.items = omega (arith, c.len.ensures) in
    let was = slice_get_read c.args.lists.now.items c.len.result c.index-index.result c.index_mut.result.now len c.if-index-len.true c.index_mut.ensures.value in
    spread_here c.args.change.now c.args.lists.now.items c.index-index.result c.index_mut.result.now c.push.new.self (sym c.index-index.ensures) was c.in_ok-push.ensures.items

pub returns-else-index-len : goal.returns-else-index-len
returns-else-index-len c = spread_past (note_of c.args.change.now) (note_lists c.args.lists.now.items) (omega (arith, c.if-index-len.false, c.len.ensures, c.index-index.ensures, as_many c.args.lists.now.items))
