use Rattle.hash_maintain.proofs.HandLawLemmas.{upkeep_keeps}
use Rattle.hash_maintain.proofs.laws.upkeep_keeps_the_hash.Goals as goal

pub returns : goal.returns
returns c = upkeep_keeps c.hands_keep_the_hash.ensures
