use Rattle.forest_law.proofs.RowStepLemmas.{row_changes_follow}
use Rattle.forest_law.proofs.steps.row_changes_follow.Goals as goal

pub returns : goal.returns
returns c = row_changes_follow
