use Rattle.leaf_rows.proofs.ChangeLemmas.{rows_are_taken_out}
use Rattle.leaf_rows.proofs.laws.rows_are_taken_out.Goals as goal

pub returns : goal.returns
returns c = rows_are_taken_out
