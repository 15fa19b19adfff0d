use Rattle.lane_law.proofs.TrailLemmas.{whole}
use Rattle.lane_law.proofs.laws.trails_are_whole.Goals as goal

pub returns : goal.returns
returns c run report v w trail fits i n e here = whole run report v w trail fits i n e here
