use Rattle.lane_law.proofs.TaughtLemmas.{taught_none, taught_more}
use Rattle.lane_law.proofs.laws.lanes_teach.Goals as goal

pub returns : goal.returns
returns c = record { none = taught_none; more = taught_more }
