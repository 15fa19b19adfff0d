use Rattle.tree_facts.proofs.NeighbourLemmas.{next_pages_fit}
use Rattle.tree_facts.proofs.levels.next_pages_fit.Goals as goal

pub returns : goal.returns
returns c = next_pages_fit
