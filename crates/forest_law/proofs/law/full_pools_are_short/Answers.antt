use Rattle.forest_law.proofs.ShortLemmas.{full_pools_are_short}
use Rattle.forest_law.proofs.law.full_pools_are_short.Goals as goal

pub returns : goal.returns
returns c = full_pools_are_short c.numbers_balance.ensures
