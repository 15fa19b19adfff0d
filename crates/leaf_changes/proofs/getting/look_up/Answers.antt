use Rattle.leaf_changes.proofs.RowLemmas.{spot_on}
use Rattle.leaf_changes.proofs.getting.look_up.Goals as goal

pub look_up_in-requires : goal.look_up_in-requires
look_up_in-requires c = spot_on c.args.frame.now c.in-Some.page c.args.key.now.tuple
    c.args.spot.now c.in-Some.is c.requires
