use Rattle.std.proofs.Common.{List, map, subst, ap, ◌∙◌}
use Rattle.std.proofs.lemmas.List.{take_all}
use Rattle.change_log.specs.Log.{ChangeNote, Log, note_of}
use Rattle.change_log.specs.Merge.{note_lists, Spreads}
use Rattle.change_log.proofs.SpreadLemmas.{spread_next}
use Rattle.change_log.proofs.lane_log.LaneLog.spread.Goals as goal

pub loop-change-preserved : goal.loop-change-preserved
loop-change-preserved c = spread_next c.deref-change-items.result.now c.loop-change.change-index c.change-item.result (note_lists c.args.lists.now.items) (note_lists c.loop-change.lists.items) (note_lists c.spread_one.new.lists.items) c.loop-change-test.true c.change-item.is c.loop-change.invariant c.in_ok-spread_one.ensures

pub returns : goal.returns
returns c =
    let all = take_all c.loop-change.change-index c.deref-change-items.result.now c.loop-change-test.false ∙ c.deref-change-items.ensures.value in
    let noted = ap (map note_of) all ∙ ap (λ (log : Log). log.noted) c.self.view_is in
    subst (λ (notes : List ChangeNote). Spreads notes (note_lists c.args.lists.now.items) (note_lists c.loop-change.lists.items)) noted c.loop-change.invariant
