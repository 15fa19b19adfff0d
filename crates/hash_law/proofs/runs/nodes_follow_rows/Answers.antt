use Rattle.hash_law.proofs.RowLemmas.{nodes_follow}
use Rattle.hash_law.proofs.runs.nodes_follow_rows.Goals as goal

pub returns : goal.returns
returns c = nodes_follow
