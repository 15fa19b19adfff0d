use Rattle.hash_law.proofs.BlockLemmas.{shares}
use Rattle.hash_law.proofs.blocks.shares_add_up.Goals as goal

pub returns : goal.returns
returns c = shares
