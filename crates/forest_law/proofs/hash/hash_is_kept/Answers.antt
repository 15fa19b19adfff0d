use Rattle.forest_law.proofs.HashLawLemmas.{hash_is_kept}
use Rattle.forest_law.proofs.hash.hash_is_kept.Goals as goal

pub returns : goal.returns
returns c = hash_is_kept
