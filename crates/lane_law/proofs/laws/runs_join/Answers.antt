use Rattle.lane_law.proofs.JoinLemmas.{one_said, both_said, both_noted, both_in_order, notes_more}
use Rattle.lane_law.proofs.laws.runs_join.Goals as goal

pub returns : goal.returns
returns c = record { note = notes_more; one = one_said; said = both_said; noted = both_noted; in_order = both_in_order }
