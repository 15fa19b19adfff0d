use Rattle.hash_upkeep.proofs.LawLemmas.{exact_covered}
use Rattle.hash_upkeep.proofs.laws.exact_nodes_are_covered.Goals as goal

pub returns : goal.returns
returns c = exact_covered
