use Rattle.hash_law.proofs.ChangeLemmas.{tail_leaves}
use Rattle.hash_law.proofs.changes.tails_leave.Goals as goal

pub returns : goal.returns
returns c = tail_leaves
