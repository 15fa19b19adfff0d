use Rattle.leaf_rows.proofs.FullLemmas.{refusals_are_full}
use Rattle.leaf_rows.proofs.laws.refusals_are_full.Goals as goal

pub returns : goal.returns
returns c = refusals_are_full
