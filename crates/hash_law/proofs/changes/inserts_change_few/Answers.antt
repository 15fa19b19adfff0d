use Rattle.hash_law.proofs.ChangeLemmas.{insert_changes}
use Rattle.hash_law.proofs.changes.inserts_change_few.Goals as goal

pub returns : goal.returns
returns c = insert_changes
