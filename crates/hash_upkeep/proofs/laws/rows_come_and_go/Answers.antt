use Rattle.hash_upkeep.proofs.LawLemmas.{come_and_go}
use Rattle.hash_upkeep.proofs.laws.rows_come_and_go.Goals as goal

pub returns : goal.returns
returns c = come_and_go
