use Rattle.map_history.proofs.HistoryLemmas.{map_after-stays, reply_of-stays}
use Rattle.map_history.proofs.laws.replies_stay.Goals as goal

pub returns : goal.returns
returns c = record { same_map = map_after-stays; same_reply = reply_of-stays }
