use Rattle.hash_law.proofs.RowLemmas.{nodes_name}
use Rattle.hash_law.proofs.runs.nodes_name_rows.Goals as goal

pub returns : goal.returns
returns c = nodes_name
