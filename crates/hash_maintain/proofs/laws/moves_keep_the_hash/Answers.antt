use Rattle.hash_maintain.proofs.MoveLawLemmas.{moves_keep}
use Rattle.hash_maintain.proofs.laws.moves_keep_the_hash.Goals as goal

pub returns : goal.returns
returns c = moves_keep c.entries_are_owed.ensures c.hands_keep_the_hash.ensures
