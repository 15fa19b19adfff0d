use Rattle.clock_law.proofs.LaterLemmas.{equal_clocks}
use Rattle.clock_law.proofs.later.equal_clocks_keep_places.Goals as goal

pub returns : goal.returns
returns c = equal_clocks
