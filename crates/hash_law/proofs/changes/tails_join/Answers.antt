use Rattle.hash_law.proofs.ChangeLemmas.{tail_joins}
use Rattle.hash_law.proofs.changes.tails_join.Goals as goal

pub returns : goal.returns
returns c = tail_joins
