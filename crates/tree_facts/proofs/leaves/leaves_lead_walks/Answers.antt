use Rattle.tree_facts.proofs.LeafLemmas.{leaves_lead_walks}
use Rattle.tree_facts.proofs.leaves.leaves_lead_walks.Goals as goal

pub returns : goal.returns
returns c = leaves_lead_walks
