use Rattle.leaf_changes.proofs.RowLemmas.{spot_on, finds_row}
use Rattle.leaf_changes.proofs.changing.find_row.Goals as goal

pub returns : goal.returns
returns c =
    finds_row c.args.frame.now c.in-Some.page c.args.key.now.tuple c.args.spot.now
    c.find_key.result c.in-Some.is c.is_in_order.ensures c.has_clock.ensures c.requires
    c.find_key.ensures

pub find_key-requires : goal.find_key-requires
find_key-requires c = spot_on c.args.frame.now c.in-Some.page c.args.key.now.tuple c.args.spot.now
    c.in-Some.is c.requires
