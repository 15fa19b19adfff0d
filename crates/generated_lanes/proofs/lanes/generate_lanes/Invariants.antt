use Rattle.std.proofs.Common.{◌≡◌, [], ◌∷◌}
use Rattle.std.specs.List.{AllByRecursion}
use Rattle.std.specs.Prelude.{vec_len, vec_capacity}
use Rattle.lane_law.specs.Lines.{AreLinesOf}
use Rattle.gen_runs.specs.Runs.{lanes_drawn}
use Rattle.generated_lanes.proofs.DrawnLemmas.{all_texts}
use Rattle.generated_lanes.proofs.lanes.generate_lanes.Given as goal

-- the lanes so far were drawn, and there is room for the rest
abbrev pub invariant-loop-before : goal.invariant-loop-before
invariant-loop-before l = record {
  drawn : all_texts l.made.items ≡ lanes_drawn l.number l.before l.lines;
  lines : AllByRecursion (λ lane. AreLinesOf (1 ∷ []) lane.items) l.made.items;
  count : vec_len l.made ≡ l.before;
  room : vec_capacity l.made ≡ l.lanes;
}
