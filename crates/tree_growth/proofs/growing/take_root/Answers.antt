use Rattle.std.proofs.Common.{[]}
use Rattle.latch_space.specs.Passes.{view}
use Rattle.tree_growth.proofs.HandLemmas.{no_table}
use Rattle.tree_growth.proofs.RootLemmas.{root_live, no_page, holds_paged, reaches_root, holds_root}
use Rattle.tree_growth.proofs.growing.take_root.Goals as goal

pub page_in-block-requires-clause-live : goal.page_in-block-requires-clause-live
page_in-block-requires-clause-live g c =
    root_live (view c.args.pass.now) c.args.index c.requires.way.index

pub page_in-block-requires-clause-others : goal.page_in-block-requires-clause-others
page_in-block-requires-clause-others g c =
    no_page c.args.pass.now c.args.index c.args.key.now.tuple c.requires.way c.args.index

pub page_in-block-requires-clause-tables : goal.page_in-block-requires-clause-tables
page_in-block-requires-clause-tables g c =
    no_table c.args.space.now c.args.pass.now c.requires.own.0 c.requires.own.1 c.args.index
    c.args.key.now.tuple [] c.requires.way

pub page_in_hand-requires-clause-held : goal.page_in_hand-requires-clause-held
page_in_hand-requires-clause-held g c =
    holds_paged c.args.pass.now c.page_in-block.new.pass c.args.index c.args.key.now.tuple
    c.requires.way c.page_in-block.result c.page_in-block.ensures.took c.page_in-block.ensures.fits

pub returns-clause-took : goal.returns-clause-took
returns-clause-took g c =
    reaches_root c.args.pass.now c.page_in-block.new.pass c.args.index c.args.key.now.tuple
    c.requires.way c.page_in-block.result c.page_in-block.ensures.took c.page_in-block.ensures.fits
    c.args.need c.page_in_hand.result c.page_in_hand.ensures

pub returns-clause-root : goal.returns-clause-root
returns-clause-root g c =
    holds_root c.args.pass.now c.page_in-block.new.pass c.args.index c.args.key.now.tuple
    c.requires.way c.page_in-block.result c.page_in-block.ensures.took c.page_in-block.ensures.fits
    c.args.need c.page_in_hand.result c.page_in_hand.ensures
