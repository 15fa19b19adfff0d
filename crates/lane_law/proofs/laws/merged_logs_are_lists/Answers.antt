use Rattle.lane_law.proofs.MergeLemmas.{are_lists}
use Rattle.lane_law.proofs.laws.merged_logs_are_lists.Goals as goal

pub returns : goal.returns
returns c run report w v logs all noted i xs merged at merge = are_lists run report w v all i logs noted xs at merged merge
