use Rattle.buffer_pool.proofs.CallLemmas.{frame_has}
use Rattle.tree_growth.proofs.FullLemmas.{can_split, is_ordered, may_give_parent, grows_kept}
use Rattle.tree_growth.proofs.growing.grow_child.Goals as goal

pub page_in_hand-low-requires-clause-held : goal.page_in_hand-low-requires-clause-held
page_in_hand-low-requires-clause-held g c = let held = c.requires.held in (
  held.low,
  held.below.is.page,
  frame_has c.args.pass.now c.requires.way.known c.args.child held.low held.knows_low,
  held.below.is.paged,
)

pub halve_child-requires-clause-two : goal.halve_child-requires-clause-two
halve_child-requires-clause-two g c =
    can_split c.args.pass.now c.args.index c.args.key.now.tuple c.args.need c.args.parent
    c.args.child c.requires.way c.requires.need c.page_in_hand-low.result c.page_in_hand-low.ensures
    c.requires.held c.if-low.true

pub halve_child-requires-clause-order : goal.halve_child-requires-clause-order
halve_child-requires-clause-order g c =
    is_ordered c.args.pass.now c.args.index c.args.key.now.tuple c.args.need c.args.parent
    c.args.child c.requires.way c.requires.need c.page_in_hand-low.result c.page_in_hand-low.ensures

pub give_back-requires-clause-held : goal.give_back-requires-clause-held
give_back-requires-clause-held g c =
    may_give_parent c.args.pass.now c.args.index c.args.key.now.tuple c.args.need c.args.parent
    c.args.child c.requires.way c.requires.need c.page_in_hand-low.result
    c.page_in_hand-low.ensures c.requires.held

pub returns-clause-ok : goal.returns-clause-ok
returns-clause-ok g c =
    grows_kept c.args.pass.now c.args.index c.args.key.now.tuple c.args.need c.args.parent
    c.args.child c.requires.way c.requires.need c.page_in_hand-low.result c.page_in_hand-low.ensures
    c.requires.held c.give_back.new.pass c.if-low.false c.give_back.ensures.gave
