use Rattle.tree_descent.proofs.PageLemmas.{may_give_back}
use Rattle.tree_shrinking.proofs.TakenLemmas.{left_held, gives_pair}
use Rattle.tree_shrinking.proofs.pairs.give_pair_back.Goals as goal

pub give_back-requires-clause-held : goal.give_back-requires-clause-held
give_back-requires-clause-held c = let h = c.requires.held in
    may_give_back c.args.pass.now c.requires.way.known c.args.pair.right c.args.index h.level
    h.upper h.knows_right h.is_right

pub give_back-requires-2-clause-held : goal.give_back-requires-2-clause-held
give_back-requires-2-clause-held c =
    left_held c.requires.way c.requires.held c.fits.ensures c.give_back.ensures.gave

pub returns-clause-gave : goal.returns-clause-gave
returns-clause-gave c =
    gives_pair c.requires.way c.requires.held c.fits.ensures c.give_back.ensures.gave
    c.give_back-2.ensures.gave
