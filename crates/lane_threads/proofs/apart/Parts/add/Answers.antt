use Rattle.std.proofs.Common.{sym, ◌∙◌}
use Rattle.lane_threads.proofs.PartLemmas.{parts_more, put_behind}
use Rattle.lane_threads.proofs.apart.Parts.add.Goals as goal

pub push_reserved-requires : goal.push_reserved-requires
push_reserved-requires c = c.in_ok-reserve_one.ensures.passes.1

pub push_reserved-requires-2 : goal.push_reserved-requires-2
push_reserved-requires-2 c = c.in_ok-reserve_one.ensures.answers.1

pub push_reserved-requires-3 : goal.push_reserved-requires-3
push_reserved-requires-3 c = c.in_ok-reserve_one.ensures.logs.1

pub push_reserved-requires-4 : goal.push_reserved-requires-4
push_reserved-requires-4 c = c.in_ok-reserve_one.ensures.counts.1

pub returns : goal.returns
returns c doers before =
    let old = c.args.self.now in let with_room = c.reserve_one.new.self in let room = c.in_ok-reserve_one.ensures in let lane = c.in-Some.lane in
    parts_more doers c.args.doer lane old.passes.items _ old.answers.items _ old.logs.items _ old.counts.items _ before (sym c.take.ensures.value ∙ c.in-Some.is)
    (put_behind old.passes with_room.passes _ lane.pass room.passes c.push_reserved.ensures.items)
    (put_behind old.answers with_room.answers _ lane.work.answers room.answers c.push_reserved-2.ensures.items)
    (put_behind old.logs with_room.logs _ lane.work.log room.logs c.push_reserved-3.ensures.items)
    (put_behind old.counts with_room.counts _ lane.work.counts room.counts c.push_reserved-4.ensures.items)
