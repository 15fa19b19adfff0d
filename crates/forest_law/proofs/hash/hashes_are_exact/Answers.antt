use Rattle.forest_law.proofs.HashLawLemmas.{hashes_are_exact}
use Rattle.forest_law.proofs.hash.hashes_are_exact.Goals as goal

pub returns : goal.returns
returns c = hashes_are_exact
