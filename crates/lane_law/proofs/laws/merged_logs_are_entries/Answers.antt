use Rattle.lane_law.proofs.MergedLemmas.{are_entries}
use Rattle.lane_law.proofs.laws.merged_logs_are_entries.Goals as goal

pub returns : goal.returns
returns c run report w v logs all noted merged = are_entries run report w v logs all noted merged
