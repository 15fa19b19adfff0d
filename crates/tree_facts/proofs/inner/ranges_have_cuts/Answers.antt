use Rattle.tree_facts.proofs.RangeLemmas.{ranges_have_cuts}
use Rattle.tree_facts.proofs.inner.ranges_have_cuts.Goals as goal

pub returns : goal.returns
returns c = ranges_have_cuts
