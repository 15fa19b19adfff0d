use Rattle.lane_threads.proofs.PartLemmas.{has_room}
use Rattle.lane_threads.proofs.apart.Parts.reserve_one.Goals as goal

pub returns : goal.returns
returns c = record {
  passes = has_room c.args.self.now.passes c.reserve.new.self c.in_ok-reserve.ensures.items c.in_ok-reserve.ensures.ok;
  answers = has_room c.args.self.now.answers c.reserve-2.new.self c.in_ok-reserve-2.ensures.items c.in_ok-reserve-2.ensures.ok;
  logs = has_room c.args.self.now.logs c.reserve-3.new.self c.in_ok-reserve-3.ensures.items c.in_ok-reserve-3.ensures.ok;
  counts = has_room c.args.self.now.counts c.reserve-4.new.self c.in_ok-reserve-4.ensures.items c.in_ok-reserve-4.ensures.ok;
}
