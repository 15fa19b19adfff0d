use Rattle.lane_law.proofs.TriedLemmas.{tries_told}
use Rattle.lane_law.proofs.laws.tries_are_columns.Goals as goal

pub returns : goal.returns
returns c = tries_told
