use Rattle.std.proofs.Common.{◌≡◌, ◌+◌, List, [], ◌∷◌, ◌++◌, length, drop, suc, ap, sym, ◌∙◌, subst, arith, length-append, length-drop}
use Rattle.std.specs.Prelude.{Vec}
use Rattle.std.specs.declared.alloc.Global.{Global}
use Rattle.std.specs.Vec.Iter.{into_iter_items}
use Rattle.map_history.specs.declared.line.Line.{Line}
use Rattle.lane_threads.specs.declared.doer.LaneDoer.{LaneDoer}
use Rattle.lane_threads.specs.Doing.{IsReadyFor, AreReadyFor}
use Rattle.lane_threads.specs.Workable.{AreWorkable}
use Rattle.lane_threads.proofs.ListLemmas.{all_at}
use Rattle.lane_threads.proofs.BuildLemmas.{drop_at, built_more, built_all}
use Rattle.lane_threads.proofs.readying.ready_lanes.Goals as goal

pub loop-lines-init : goal.loop-lines-init
loop-lines-init c =
    let items = c.into_iter-given.ensures.rest in
    let len = c.into_iter-given.ensures.len in
    let same = ap length items in
    record {
      rest = items;
      count = omega (arith, len, same);
      made = ap length c.in_ok-doers.ensures.items;
      room = c.in_ok-doers.ensures.capacity;
      built = λ more rest. subst (λ (ds : List LaneDoer). AreReadyFor c.args.engine.now c.args.passes.items c.args.lanes.now (ds ++ more)) (sym c.in_ok-doers.ensures.items) rest;
    }

pub unreachable-requires : goal.unreachable-requires
unreachable-requires c =
    let so_far = c.loop-lines.invariant in
    let none = c.in_default.ensures.cases.0 in
    let count = so_far.count in
    let rest = ap length so_far.rest in
    let below = c.loop-lines-test.true in
    let long = c.requires.long in
    omega (arith, none, count, rest, below, long, length-drop c.loop-lines.lines-index c.args.passes.items)

pub ready-requires-clause-own : goal.ready-requires-clause-own
ready-requires-clause-own c =
    let at = drop_at c.args.passes.items c.loop-lines.lines-index c.in-Some.pass (into_iter_items c.next.new.self) (sym c.loop-lines.invariant.rest ∙ c.in-Some.ensures.items) in
    (c.requires.own c.loop-lines.lines-index c.in-Some.pass at.0).own

pub ready-requires-clause-one : goal.ready-requires-clause-one
ready-requires-clause-one c =
    let at = drop_at c.args.passes.items c.loop-lines.lines-index c.in-Some.pass (into_iter_items c.next.new.self) (sym c.loop-lines.invariant.rest ∙ c.in-Some.ensures.items) in
    let lane = c.requires.own c.loop-lines.lines-index c.in-Some.pass at.0 in
    let low = lane.low in
    let end = lane.end in
    omega (arith, low, end)

pub ready-requires-clause-lines : goal.ready-requires-clause-lines
ready-requires-clause-lines c =
    let at : AreWorkable c.args.engine.now c.lines-item.result.items = subst (λ (ls : Vec Line Global). AreWorkable c.args.engine.now ls.items) (sym c.lines-item.is) (all_at (λ (ls : Vec Line Global). AreWorkable c.args.engine.now ls.items) c.args.lanes.now c.loop-lines.lines-index c.lines-item.result c.requires.lines c.loop-lines-test.true) in
    subst (AreWorkable c.args.engine.now) (sym c.deref.ensures.value) at

pub push_reserved-requires : goal.push_reserved-requires
push_reserved-requires c =
    let made = c.loop-lines.invariant.made in
    let room = c.loop-lines.invariant.room in
    let below = c.loop-lines-test.true in
    omega (arith, made, room, below)

pub loop-lines-preserved : goal.loop-lines-preserved
loop-lines-preserved c =
    let so_far = c.loop-lines.invariant in
    let i = c.loop-lines.lines-index in
    let there = sym so_far.rest ∙ c.in-Some.ensures.items in
    let at = drop_at c.args.passes.items i c.in-Some.pass (into_iter_items c.next.new.self) there in
    let next : suc i ≡ i + 1 = omega arith in
    let count = so_far.count in
    let shorter = ap length c.in-Some.ensures.items in
    let len = c.in-Some.ensures.cases.1 in
    let before = so_far.made in
    let made = ap length c.push_reserved.ensures.items in
    let room = so_far.room in
    let kept = c.push_reserved.ensures.capacity in
    let longer = length-append c.loop-lines.doers.items (c.ready.result ∷ []) in
    record {
      rest = sym at.1 ∙ ap (λ n. drop n c.args.passes.items) next;
      count = omega (arith, count, shorter, len);
      made = omega (arith, made, longer, before);
      room = omega (arith, room, kept);
      built = built_more c.args.engine.now c.args.passes.items c.args.lanes.now i c.in-Some.pass (into_iter_items c.next.new.self) c.lines-item.result c.ready.result c.loop-lines.doers.items c.push_reserved.new.self.items
          there c.loop-lines-test.true c.lines-item.is (subst (λ (ls : List Line). IsReadyFor c.args.engine.now c.in-Some.pass ls c.ready.result) c.deref.ensures.value c.ready.ensures) c.push_reserved.ensures.items so_far.built;
    }

pub returns : goal.returns
returns c = built_all c.args.engine.now c.args.passes.items c.args.lanes.now c.loop-lines.lines-index c.loop-lines.doers.items c.requires.long c.loop-lines-test.false c.loop-lines.invariant.built
