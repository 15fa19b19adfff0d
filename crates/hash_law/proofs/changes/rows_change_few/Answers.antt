use Rattle.hash_law.proofs.RowChangeLemmas.{rows_change}
use Rattle.hash_law.proofs.changes.rows_change_few.Goals as goal

pub returns : goal.returns
returns c = rows_change
