use Rattle.hash_law.proofs.SumLemmas.{add_up}
use Rattle.hash_law.proofs.sums.blocks_add_up.Goals as goal

pub returns : goal.returns
returns c = add_up
