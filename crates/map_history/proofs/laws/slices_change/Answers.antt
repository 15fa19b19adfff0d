use Rattle.map_history.proofs.WriteLemmas.{value_at-slice}
use Rattle.map_history.proofs.HistoryLemmas.{slice-after_change_in, slice-after_change_out}
use Rattle.map_history.proofs.laws.slices_change.Goals as goal

pub returns : goal.returns
returns c = record { value = λ low high m k h. value_at-slice low high k m h; inside = slice-after_change_in; outside = slice-after_change_out }
