use Rattle.std.proofs.Common.{List, subst}
use Rattle.std.proofs.lemmas.List.{take_all}
use Rattle.change_log.specs.Log.{Log}
use Rattle.change_log.specs.Merge.{note_lists, AreSpread}
use Rattle.change_log.proofs.SpreadLemmas.{spread_begins, spread_log}
use Rattle.change_log.proofs.merging.spread.Goals as goal

pub loop-log-preserved : goal.loop-log-preserved
loop-log-preserved c = spread_log c.args.indexes c.args.logs.now c.loop-log.log-index c.log-item.result (note_lists c.loop-log.lists.items) (note_lists c.spread.new.lists.items) c.loop-log-test.true c.log-item.is c.loop-log.invariant c.in_ok-spread.ensures

pub returns : goal.returns
returns c =
    let all = take_all c.loop-log.log-index c.args.logs.now c.loop-log-test.false in
    subst (λ (logs : List Log). AreSpread c.args.indexes logs (note_lists c.loop-log.lists.items)) all c.loop-log.invariant

pub loop-log-init : goal.loop-log-init
loop-log-init c = spread_begins c.args.indexes (note_lists c.in_ok-lists.lists.items) c.in_ok-lists.ensures
