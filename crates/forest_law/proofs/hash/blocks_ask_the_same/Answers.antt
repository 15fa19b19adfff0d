use Rattle.forest_law.proofs.HashLawLemmas.{blocks_ask}
use Rattle.forest_law.proofs.hash.blocks_ask_the_same.Goals as goal

pub returns : goal.returns
returns c = blocks_ask c.others_are_owed_nothing.ensures
