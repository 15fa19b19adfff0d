use Rattle.std.proofs.Common.{refl, subst}
use Rattle.std.specs.Prelude.{IfOk}
use Rattle.key_tuple.specs.Limits.{IsWithinLimits}
use Rattle.buffer_pool.proofs.CallLemmas.{frame_has}
use Rattle.tree_smo.specs.Splitting.{SplitsChild}
use Rattle.buffer_pool.specs.NewPages.{FindsNoneFree}
use Rattle.tree_smo.proofs.BesideLemmas.{memory_not_full}
use Rattle.tree_smo.proofs.ChildLemmas.{got_nothing, low_page, can_be_cut, index_is, planned}
use Rattle.tree_smo.proofs.splitting.split_child.Goals as goal

pub head_of-head-requires : goal.head_of-head-requires
head_of-head-requires g c =
    low_page c.args.pass.now c.requires.known c.args.parent c.args.child c.args.index
    c.requires.held c.frame-low.result.now c.frame-low.ensures

pub find_cut-requires : goal.find_cut-requires
find_cut-requires g c =
    can_be_cut c.args.pass.now c.requires.known c.args.parent c.args.child c.args.index
    c.requires.held c.frame-low.result.now c.frame-low.ensures

pub returns-in-Err-clause-full : goal.returns-in-Err-clause-full
returns-in-Err-clause-full g c = λ e. absurd (memory_not_full _ refl e)

pub returns-in-Err-clause-memory : goal.returns-in-Err-clause-memory
returns-in-Err-clause-memory g c = λ e. got_nothing c.args.pass.now c.requires.known

pub split_planned-requires-clause-held : goal.split_planned-requires-clause-held
split_planned-requires-clause-held g c =
    planned c.args.pass.now c.requires.known c.args.parent c.args.child c.args.index
    c.requires.held c.frame-low.result.now c.frame-low.ensures c.head_of-head.result
    c.head_of-head.ensures.head c.in-Ok.cut c.head_of-head.ensures.next c.in-Ok.ensures
    (subst IsWithinLimits c.tuple.ensures.fields c.is_within_limits.ensures)

pub returns-clause-ok : goal.returns-clause-ok
returns-clause-ok g c = let p = c.args.pass.now in
    subst
    (λ i. IfOk c.split_planned.result
    (λ right. SplitsChild p c.args.parent c.args.child i right c.split_planned.new.pass))
    (index_is p c.requires.known c.args.parent c.args.child c.args.index
    c.requires.held c.frame-low.result.now c.frame-low.ensures c.head_of-head.result
    c.head_of-head.ensures.head) c.split_planned.ensures.ok

pub returns-clause-full : goal.returns-clause-full
returns-clause-full g c = λ e. let p = c.args.pass.now in
    subst (λ i. FindsNoneFree p i c.split_planned.new.pass)
    (index_is p c.requires.known c.args.parent c.args.child c.args.index
    c.requires.held c.frame-low.result.now c.frame-low.ensures c.head_of-head.result
    c.head_of-head.ensures.head) (c.split_planned.ensures.full e)

pub frame-low-requires-clause-held : goal.frame-low-requires-clause-held
frame-low-requires-clause-held g c = let can = c.requires.held in
    (can.low, can.low, frame_has c.args.pass.now c.requires.known c.args.child can.low can.knows_low)
