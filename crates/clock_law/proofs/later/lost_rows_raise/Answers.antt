use Rattle.clock_law.proofs.LaterLemmas.{lost_rows}
use Rattle.clock_law.proofs.later.lost_rows_raise.Goals as goal

pub returns : goal.returns
returns c = lost_rows
