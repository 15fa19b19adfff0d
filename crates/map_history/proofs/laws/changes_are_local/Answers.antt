use Rattle.map_history.proofs.ApplyLemmas.{after-refused}
use Rattle.map_history.proofs.HistoryLemmas.{value_at-after_change, value_at-after_change_other}
use Rattle.map_history.proofs.laws.changes_are_local.Goals as goal

pub returns : goal.returns
returns c = record { here = value_at-after_change; elsewhere = value_at-after_change_other; refused = after-refused }
