use Rattle.map_history.proofs.HistoryLemmas.{after_change-ascends, map_after-ascends}
use Rattle.map_history.proofs.laws.maps_ascend.Goals as goal

pub returns : goal.returns
returns c = record { one = after_change-ascends; all = map_after-ascends }
