use Rattle.tree_facts.proofs.InnerLemmas.{children_have_cuts}
use Rattle.tree_facts.proofs.inner.children_have_cuts.Goals as goal

pub returns : goal.returns
returns c = children_have_cuts
