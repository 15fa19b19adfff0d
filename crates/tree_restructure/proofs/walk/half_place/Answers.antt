use Rattle.tree_restructure.proofs.WalkLemmas.{half_at, no_end}
use Rattle.tree_restructure.proofs.walk.half_place.Goals as goal

pub returns : goal.returns
returns c = half_at c.args.page.now.rows c.split_point.result c.in-Some.place
    c.split_point.ensures c.in-Some.ensures

pub unreachable-requires : goal.unreachable-requires
unreachable-requires c = let rows = c.args.page.now.rows in
    no_end rows rows c.split_point.result c.split_point.ensures.some_right c.in-None.ensures
