use Rattle.hash_law.proofs.RowLemmas.{entries_own}
use Rattle.hash_law.proofs.sums.entries_are_own.Goals as goal

pub returns : goal.returns
returns c = entries_own
