use Rattle.std.proofs.Common.{◌≡◌, ◌+◌}
use Rattle.std.specs.Prelude.{vec_len, vec_capacity}
use Rattle.map_history.specs.Lines.{line_texts}
use Rattle.gen_law.specs.Drawing.{lane_lines, state_after}
use Rattle.generated.proofs.lane.generate_lane.Given as goal

-- the lines so far were drawn, and there is room for the rest
abbrev pub invariant-loop-before : goal.invariant-loop-before
invariant-loop-before l = record {
  drawn : line_texts l.made.items ≡ lane_lines l.number l.lane l.before;
  state : l.state ≡ state_after (l.number + l.lane) l.before;
  count : vec_len l.made ≡ l.before;
  room : vec_capacity l.made ≡ l.lines;
}
