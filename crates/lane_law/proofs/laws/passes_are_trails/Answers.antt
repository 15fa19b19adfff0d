use Rattle.lane_law.proofs.TrailLemmas.{trail}
use Rattle.lane_law.proofs.laws.passes_are_trails.Goals as goal

pub returns : goal.returns
returns c run report w v all entries = trail run report w v all entries
