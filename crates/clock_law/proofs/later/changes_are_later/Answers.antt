use Rattle.clock_law.proofs.LaterLemmas.{changes}
use Rattle.clock_law.proofs.later.changes_are_later.Goals as goal

pub returns : goal.returns
returns c = changes
