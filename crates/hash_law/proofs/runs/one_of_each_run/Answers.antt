use Rattle.hash_law.proofs.RunLemmas.{one_entry}
use Rattle.hash_law.proofs.runs.one_of_each_run.Goals as goal

pub returns : goal.returns
returns c = one_entry
