use Rattle.hash_law.proofs.SumLemmas.{change_together}
use Rattle.hash_law.proofs.sums.blocks_change_together.Goals as goal

pub returns : goal.returns
returns c = change_together
