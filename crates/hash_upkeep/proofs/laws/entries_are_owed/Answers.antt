use Rattle.hash_upkeep.proofs.LawLemmas.{owed}
use Rattle.hash_upkeep.proofs.laws.entries_are_owed.Goals as goal

pub returns : goal.returns
returns c = owed
