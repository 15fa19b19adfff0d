use Rattle.std.proofs.Common.{[], ◌∷◌}
use Rattle.tree_growth.proofs.HandLemmas.{no_table}
use Rattle.tree_shrinking.proofs.TakenLemmas.{first_live, first_others, one, second_live, second_others, takes_pair}
use Rattle.tree_shrinking.proofs.pairs.take_pair.Goals as goal

pub page_in-left-requires-clause-live : goal.page_in-left-requires-clause-live
page_in-left-requires-clause-live g c =
    first_live c.requires.way c.requires.held

pub page_in-left-requires-clause-others : goal.page_in-left-requires-clause-others
page_in-left-requires-clause-others g c =
    first_others c.requires.way c.requires.held c.fits.ensures

pub page_in-left-requires-clause-tables : goal.page_in-left-requires-clause-tables
page_in-left-requires-clause-tables g c =
    no_table c.args.space.now c.args.pass.now c.requires.own.0 c.requires.own.1 c.args.index
    c.args.key.now.tuple (c.args.parent ∷ []) c.requires.way

pub page_in-right-requires-clause-live : goal.page_in-right-requires-clause-live
page_in-right-requires-clause-live g c =
    second_live c.requires.way c.requires.held c.page_in-left.ensures.took

pub page_in-right-requires-clause-others : goal.page_in-right-requires-clause-others
page_in-right-requires-clause-others g c =
    second_others c.requires.way c.requires.held c.page_in-left.ensures.took
    c.page_in-left.ensures.fits

pub page_in-right-requires-clause-tables : goal.page_in-right-requires-clause-tables
page_in-right-requires-clause-tables g c =
    no_table c.args.space.now c.page_in-left.new.pass c.requires.own.0 c.page_in-left.ensures.own.1
    c.args.index c.args.key.now.tuple (c.args.parent ∷ c.page_in-left.result ∷ [])
    (one c.requires.way c.requires.held c.page_in-left.ensures.took).way

pub returns-clause-took : goal.returns-clause-took
returns-clause-took g c =
    takes_pair c.requires.way c.requires.held c.page_in-left.ensures.took
    c.page_in-right.ensures.took c.page_in-right.ensures.fits
