use Rattle.lane_law.proofs.LegalLemmas.{legal}
use Rattle.lane_law.proofs.laws.lanes_are_legal.Goals as goal

pub returns : goal.returns
returns c run report w v plain all entries = legal run report w v plain all entries
