use Rattle.guess_check.proofs.laws.checked_rows_pass.Goals as goal
use Rattle.guess_check.proofs.CheckLemmas.{checked}

pub returns : goal.returns
returns c = checked
