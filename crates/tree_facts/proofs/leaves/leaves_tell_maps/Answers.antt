use Rattle.tree_facts.proofs.LeafLemmas.{leaves_tell_maps}
use Rattle.tree_facts.proofs.leaves.leaves_tell_maps.Goals as goal

pub returns : goal.returns
returns c = leaves_tell_maps
