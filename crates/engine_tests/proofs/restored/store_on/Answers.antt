use Rattle.tree_descent.proofs.PageLemmas.{may_give_back}
use Rattle.engine_tests.proofs.MarkLemmas.{stored_marks}
use Rattle.engine_tests.proofs.restored.store_on.Goals as goal

pub give_back-requires-clause-held : goal.give_back-requires-clause-held
give_back-requires-clause-held g c = let h = c.requires.leaf in
    may_give_back c.args.pass.now c.requires.known c.args.block 0 0 h.frame h.knows h.is

pub returns-clause-marked : goal.returns-clause-marked
returns-clause-marked g c = stored_marks c.args.pass.now c.give_back.new.pass c.args.block
    c.args.place c.in-Ok.cursor c.requires.leaf c.in-Ok.ensures c.give_back.ensures.gave
