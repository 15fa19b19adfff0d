use Rattle.tree_facts.proofs.CutLemmas.{cuts_are_in_ranges}
use Rattle.tree_facts.proofs.inner.cuts_are_in_ranges.Goals as goal

pub returns : goal.returns
returns c = cuts_are_in_ranges
