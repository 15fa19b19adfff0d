use Rattle.std.proofs.Common.{◌≡◌, ◌+◌, ap, ◌∙◌}
use Rattle.gen_law.specs.Drawing.{state_after}
use Rattle.generated.proofs.LaneLemmas.{step_more, line_more}
use Rattle.generated.proofs.lane.generate_lane.Goals as goal

pub loop-before-preserved : goal.loop-before-preserved
loop-before-preserved c =
    let old = c.loop-before.invariant in
    let state : c.next_state-state.result ≡ state_after (c.args.number + c.args.lane) (c.loop-before.before + 1) =
    step_more (c.args.number + c.args.lane) c.loop-before.before c.loop-before.state c.next_state-state.result old.state c.next_state-state.ensures in
    record {
      drawn = line_more c.args.number c.args.lane c.loop-before.before c.next_state-state.result c.loop-before.made.items c.push_reserved.new.self.items c.in_ok-line_drawn.field-0 c.push_reserved.ensures.items old.drawn state c.in_ok-line_drawn.ensures;
      state = state;
      count = c.push_reserved.ensures.len ∙ ap (λ n. n + 1) old.count;
      room = c.push_reserved.ensures.capacity ∙ old.room;
    }
