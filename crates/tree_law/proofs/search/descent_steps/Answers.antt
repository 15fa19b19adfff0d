use Rattle.tree_law.proofs.search.descent_steps.Goals as goal
use Rattle.tree_law.proofs.PickLemmas.{descent_steps}

pub returns : goal.returns
returns c = descent_steps
