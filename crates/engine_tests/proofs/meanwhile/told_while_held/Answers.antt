use Rattle.tree_descent.proofs.PageLemmas.{may_give_back}
use Rattle.engine_tests.proofs.EmptyLemmas.{none_has_frame, none_has_table}
use Rattle.engine_tests.proofs.meanwhile.told_while_held.Goals as goal

pub descend-leaf-requires-clause-frames : goal.descend-leaf-requires-clause-frames
descend-leaf-requires-clause-frames g c = let other = c.args.other.now in
    let site = other.site.now in
    none_has_frame site.space other.pass site.forest other.own other.nothing

pub descend-leaf-requires-clause-tables : goal.descend-leaf-requires-clause-tables
descend-leaf-requires-clause-tables g c = let other = c.args.other.now in
    let site = other.site.now in
    none_has_table site.space other.pass site.forest other.own other.nothing

pub give_back-requires-clause-held : goal.give_back-requires-clause-held
give_back-requires-clause-held g c = let went = c.descend-leaf.ensures.went in
    may_give_back c.descend-leaf.new.pass went.silently.does.known c.descend-leaf.result.block 0 0
    went.frame went.knows went.is.page.is
