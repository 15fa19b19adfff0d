use Rattle.hash_law.proofs.RunLemmas.{right_mirrors}
use Rattle.hash_law.proofs.runs.right_mirrors_left.Goals as goal

pub returns : goal.returns
returns c = right_mirrors
