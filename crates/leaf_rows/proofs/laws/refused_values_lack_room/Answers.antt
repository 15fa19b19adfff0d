use Rattle.leaf_rows.proofs.FullLemmas.{refused_values_lack_room}
use Rattle.leaf_rows.proofs.laws.refused_values_lack_room.Goals as goal

pub returns : goal.returns
returns c = refused_values_lack_room
