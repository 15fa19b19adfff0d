use Rattle.tree_facts.proofs.LevelLemmas.{levels_are_few}
use Rattle.tree_facts.proofs.levels.levels_are_few.Goals as goal

pub returns : goal.returns
returns c = levels_are_few
