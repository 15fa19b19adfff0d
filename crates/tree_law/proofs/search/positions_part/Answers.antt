use Rattle.tree_law.proofs.search.positions_part.Goals as goal
use Rattle.key_tuple.proofs.PositionLemmas.{positions_part}

pub returns : goal.returns
returns c = positions_part
