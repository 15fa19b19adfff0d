use Rattle.tree_merging.proofs.SiblingLemmas.{siblings_fit}
use Rattle.tree_merging.proofs.laws.siblings_fit.Goals as goal

pub returns : goal.returns
returns c = siblings_fit
