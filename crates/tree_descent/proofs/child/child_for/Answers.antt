use Rattle.latch_space.specs.Passes.{view}
use Rattle.tree_descent.proofs.InnerLemmas.{inner_page, child_live, child_others, takes_child}
use Rattle.tree_descent.proofs.child.child_for.Goals as goal

pub picked_child-child-requires-clause-held : goal.picked_child-child-requires-clause-held
picked_child-child-requires-clause-held g c = (
  c.requires.held.level,
  inner_page (view c.args.pass.now) c.args.block c.args.index c.args.mode
      (g.T.Fields.fields_of c.args.tuple.now) c.requires.held,
)

pub page_in-requires-clause-live : goal.page_in-requires-clause-live
page_in-requires-clause-live g c =
    let tuple = g.T.Fields.fields_of c.args.tuple.now in
    child_live (view c.args.pass.now) c.args.block c.args.index c.args.mode tuple c.requires.held
    c.picked_child-child.result
    (c.picked_child-child.ensures c.requires.held.level
    (inner_page (view c.args.pass.now) c.args.block c.args.index c.args.mode tuple
    c.requires.held))

pub page_in-requires-clause-others : goal.page_in-requires-clause-others
page_in-requires-clause-others g c =
    let tuple = g.T.Fields.fields_of c.args.tuple.now in
    child_others (view c.args.pass.now) c.args.block c.args.index c.args.mode tuple
    c.requires.held c.picked_child-child.result
    (c.picked_child-child.ensures c.requires.held.level
    (inner_page (view c.args.pass.now) c.args.block c.args.index c.args.mode tuple
    c.requires.held))
    c.fits.ensures c.requires.frames

pub returns-clause-took : goal.returns-clause-took
returns-clause-took g c =
    let tuple = g.T.Fields.fields_of c.args.tuple.now in
    takes_child c.args.pass.now c.args.block c.args.index c.args.mode tuple c.requires.held
    c.picked_child-child.result
    (c.picked_child-child.ensures c.requires.held.level
    (inner_page (view c.args.pass.now) c.args.block c.args.index c.args.mode tuple
    c.requires.held))
    c.page_in.result c.page_in.new.pass c.page_in.ensures.took c.page_in.ensures.fits
