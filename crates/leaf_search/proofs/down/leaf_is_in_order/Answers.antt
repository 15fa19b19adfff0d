use Rattle.leaf_search.proofs.LessonLemmas.{leaf_paged}
use Rattle.leaf_search.proofs.down.leaf_is_in_order.Goals as goal

pub page_is_in_order-requires : goal.page_is_in_order-requires
page_is_in_order-requires c = leaf_paged c.args.pass.now c.args.block c.args.index
    c.requires.known c.frame.result.now c.frame.ensures c.requires.leaf

pub returns : goal.returns
returns c = λ h. c.page_is_in_order.ensures h.is.page (leaf_paged c.args.pass.now c.args.block
    c.args.index c.requires.known c.frame.result.now c.frame.ensures h).1
