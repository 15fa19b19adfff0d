use Rattle.lane_law.proofs.ExampleLemmas.{met}
use Rattle.lane_law.proofs.laws.worked_example.Goals as goal

pub returns : goal.returns
returns c sizes w is = met sizes w is
