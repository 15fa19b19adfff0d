use Rattle.tree_facts.proofs.InnerLemmas.{inner_pages_point}
use Rattle.tree_facts.proofs.inner.inner_pages_point.Goals as goal

pub returns : goal.returns
returns c = inner_pages_point
