use Rattle.std.proofs.Common.{◌<◌, ◌^◌, sym, subst, arith}
use Rattle.std.proofs.lemmas.Result.{IfOk-weaker}
use Rattle.latch_space.specs.Passes.{view}
use Rattle.index_law.specs.Shape.{Shape}
use Rattle.buffer_pool.proofs.SpaceLemmas.{objects_of}
use Rattle.buffer_pool.proofs.AgainLemmas.{passes_both}
use Rattle.tree_smo.specs.Plans.{SplitsBeside}
use Rattle.tree_smo.specs.Splitting.{SplitsChild}
use Rattle.tree_smo.proofs.AroundLemmas.{none_free, nothing, splits_child, splits_last, frames_last}
use Rattle.tree_smo.proofs.NextLemmas.{plan_last, next_live, next_other, next_taken, plan_with, plan_held, frames_held, tables_still, next_held}
use Rattle.tree_smo.proofs.SilentLemmas.{does_shape}
use Rattle.tree_smo.proofs.splitting.split_planned.Goals as goal

pub split_beside-requires-clause-held : goal.split_beside-requires-clause-held
split_beside-requires-clause-held g c =
    plan_last c.args.pass.now c.args.plan c.requires.held.0 c.requires.held.1 c.requires.next
    c.in-None.is

pub split_beside-requires-clause-frames : goal.split_beside-requires-clause-frames
split_beside-requires-clause-frames g c =
    frames_last (view c.args.pass.now) c.args.plan c.requires.frames

pub page_in-behind-requires-clause-live : goal.page_in-behind-requires-clause-live
page_in-behind-requires-clause-live g c =
    next_live c.args.pass.now c.args.plan c.requires.held.0 c.requires.held.1 c.in-Some.next
    c.in-Some.is

pub page_in-behind-requires-clause-others : goal.page_in-behind-requires-clause-others
page_in-behind-requires-clause-others g c = let f = c.fits.ensures in let own = c.requires.own in
    next_other c.args.pass.now c.args.plan c.requires.held.0 c.requires.held.1 c.in-Some.next
    c.in-Some.is f.whole f.is_lawful f.fits c.requires.frames
    (objects_of c.args.space.now c.args.pass.now own.0 own.1)

pub split_beside-made-requires-clause-held : goal.split_beside-made-requires-clause-held
split_beside-made-requires-clause-held g c = let p = c.args.pass.now in let plan = c.args.plan in
    let n = c.in-Some.next in let b = c.page_in-behind.result in
    let q = c.page_in-behind.new.pass in
    plan_held p plan n b q (next_taken p plan n b q c.requires.held c.in-Some.is
    c.page_in-behind.ensures.took c.page_in-behind.ensures.fits)

pub split_beside-made-requires-clause-known : goal.split_beside-made-requires-clause-known
split_beside-made-requires-clause-known g c =
    c.page_in-behind.ensures.took.silently.does.known

pub split_beside-made-requires-clause-few : goal.split_beside-made-requires-clause-few
split_beside-made-requires-clause-few g c = subst (λ (s : Shape). s.pages < 2 ^ 32)
    (sym (does_shape c.args.pass.now c.page_in-behind.new.pass _ _
    c.page_in-behind.ensures.took.silently.does)) c.requires.few

pub split_beside-made-requires-clause-room : goal.split_beside-made-requires-clause-room
split_beside-made-requires-clause-room g c = let counted = c.page_in-behind.ensures.took.count in
    let room = c.requires.room in omega (arith, counted, room)

pub split_beside-made-requires-clause-frames : goal.split_beside-made-requires-clause-frames
split_beside-made-requires-clause-frames g c = let p = c.args.pass.now in let plan = c.args.plan in
    let n = c.in-Some.next in let b = c.page_in-behind.result in
    let q = c.page_in-behind.new.pass in
    frames_held p plan n b q (next_taken p plan n b q c.requires.held c.in-Some.is
    c.page_in-behind.ensures.took c.page_in-behind.ensures.fits) c.requires.frames

pub split_beside-made-requires-clause-tables : goal.split_beside-made-requires-clause-tables
split_beside-made-requires-clause-tables g c = let p = c.args.pass.now in let plan = c.args.plan in
    let n = c.in-Some.next in let b = c.page_in-behind.result in
    let q = c.page_in-behind.new.pass in
    tables_still p plan n b q (next_taken p plan n b q c.requires.held c.in-Some.is
    c.page_in-behind.ensures.took c.page_in-behind.ensures.fits) c.requires.tables

pub give_back-requires-clause-held : goal.give_back-requires-clause-held
give_back-requires-clause-held g c = let p = c.args.pass.now in let plan = c.args.plan in
    let n = c.in-Some.next in let b = c.page_in-behind.result in
    let q = c.page_in-behind.new.pass in
    next_held p plan n b q (next_taken p plan n b q c.requires.held c.in-Some.is
    c.page_in-behind.ensures.took c.page_in-behind.ensures.fits)
    c.split_beside-made.new.pass c.split_beside-made.result c.split_beside-made.ensures.ok
    c.split_beside-made.ensures.full c.split_beside-made.ensures.memory

pub returns-in-None-clause-ok : goal.returns-in-None-clause-ok
returns-in-None-clause-ok g c = let p = c.args.pass.now in let plan = c.args.plan in
    let r = c.split_beside.new.pass in
    IfOk-weaker c.split_beside.result (λ right. SplitsBeside p plan right r)
    (λ right. SplitsChild p plan.parent plan.child plan.head.index right r)
    (splits_last p r plan c.requires.next) c.split_beside.ensures.ok

pub returns-in-Some-clause-ok : goal.returns-in-Some-clause-ok
returns-in-Some-clause-ok g c = let p = c.args.pass.now in let plan = c.args.plan in
    let n = c.in-Some.next in let b = c.page_in-behind.result in
    let q = c.page_in-behind.new.pass in
    let r = c.split_beside-made.new.pass in let s = c.give_back.new.pass in
    IfOk-weaker c.split_beside-made.result
    (λ right. SplitsBeside q (plan_with plan b) right r)
    (λ right. SplitsChild p plan.parent plan.child plan.head.index right s)
    (splits_child p plan n b q (next_taken p plan n b q c.requires.held c.in-Some.is
    c.page_in-behind.ensures.took c.page_in-behind.ensures.fits) r s
    c.give_back.ensures.gave) c.split_beside-made.ensures.ok

pub returns-in-Some-clause-full : goal.returns-in-Some-clause-full
returns-in-Some-clause-full g c = λ e. let p = c.args.pass.now in let plan = c.args.plan in
    let n = c.in-Some.next in let b = c.page_in-behind.result in
    let q = c.page_in-behind.new.pass in
    none_free p plan n b q (next_taken p plan n b q c.requires.held c.in-Some.is
    c.page_in-behind.ensures.took c.page_in-behind.ensures.fits)
    c.split_beside-made.new.pass c.give_back.new.pass c.give_back.ensures.gave
    (c.split_beside-made.ensures.full e)

pub returns-in-Some-clause-memory : goal.returns-in-Some-clause-memory
returns-in-Some-clause-memory g c = λ e. let p = c.args.pass.now in let plan = c.args.plan in
    let n = c.in-Some.next in let b = c.page_in-behind.result in
    let q = c.page_in-behind.new.pass in
    nothing p plan n b q (next_taken p plan n b q c.requires.held c.in-Some.is
    c.page_in-behind.ensures.took c.page_in-behind.ensures.fits)
    c.split_beside-made.new.pass c.give_back.new.pass c.give_back.ensures.gave
    (c.split_beside-made.ensures.memory e)

pub returns-in-Some-clause-own : goal.returns-in-Some-clause-own
returns-in-Some-clause-own g c = let p = c.args.pass.now in let q = c.page_in-behind.new.pass in
    let r = c.split_beside-made.new.pass in let s = c.give_back.new.pass in (
      passes_both p q s c.page_in-behind.ensures.own.0
          (passes_both q r s c.split_beside-made.ensures.own.0 c.give_back.ensures.own.0),
      c.give_back.ensures.own.1,
    )
