use Rattle.clock_law.proofs.LaterLemmas.{order}
use Rattle.clock_law.proofs.later.later_is_an_order.Goals as goal

pub returns : goal.returns
returns c = order
