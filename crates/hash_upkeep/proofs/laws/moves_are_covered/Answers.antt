use Rattle.hash_upkeep.proofs.LawLemmas.{moves_covered}
use Rattle.hash_upkeep.proofs.laws.moves_are_covered.Goals as goal

pub returns : goal.returns
returns c = moves_covered
