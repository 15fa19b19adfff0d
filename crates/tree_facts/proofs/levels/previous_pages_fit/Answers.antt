use Rattle.tree_facts.proofs.NeighbourLemmas.{previous_pages_fit}
use Rattle.tree_facts.proofs.levels.previous_pages_fit.Goals as goal

pub returns : goal.returns
returns c = previous_pages_fit
