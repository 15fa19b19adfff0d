use Rattle.std.proofs.Common.{◌+◌, ap, ◌∙◌}
use Rattle.generated_lanes.proofs.DrawnLemmas.{texts_more, lines_more}
use Rattle.generated_lanes.proofs.lanes.generate_lanes.Goals as goal

pub loop-before-preserved : goal.loop-before-preserved
loop-before-preserved c =
    let old = c.loop-before.invariant in
    let lane = c.in_ok-generate_lane.field-0 in
    record {
      drawn = texts_more c.args.number c.args.lines c.loop-before.before c.loop-before.made.items c.push_reserved.new.self.items lane c.push_reserved.ensures.items old.drawn c.in_ok-generate_lane.ensures;
      lines = lines_more c.args.number c.args.lines c.loop-before.before c.loop-before.made.items c.push_reserved.new.self.items lane c.push_reserved.ensures.items old.lines c.in_ok-generate_lane.ensures;
      count = c.push_reserved.ensures.len ∙ ap (λ n. n + 1) old.count;
      room = c.push_reserved.ensures.capacity ∙ old.room;
    }
