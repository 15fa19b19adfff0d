use Rattle.tree_restructure.proofs.BehindLemmas.{lacks_inside, inner_page}
use Rattle.tree_restructure.proofs.pointer.put_in.Goals as goal

pub insert-outcome-requires-clause-absent : goal.insert-outcome-requires-clause-absent
insert-outcome-requires-clause-absent c = lacks_inside c.args.page.now c.requires.0
    c.args.key.now.tuple c.is_in_order.ensures c.requires.1

pub insert-outcome-requires-clause-body : goal.insert-outcome-requires-clause-body
insert-outcome-requires-clause-body c = inner_page c.args.page.now c.requires.0
    c.args.key.now.tuple c.is_in_order.ensures c.requires.1 c.args.child
