use Rattle.tree_facts.proofs.ChildLemmas.{pointers_bound_children}
use Rattle.tree_facts.proofs.inner.pointers_bound_children.Goals as goal

pub returns : goal.returns
returns c = pointers_bound_children
