use Rattle.hash_law.proofs.ChangeLemmas.{delete_changes}
use Rattle.hash_law.proofs.changes.deletes_change_few.Goals as goal

pub returns : goal.returns
returns c = delete_changes
