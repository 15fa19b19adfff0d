use Rattle.std.proofs.Common.{suc, subst}
use Rattle.index_law.specs.Shape.{Shape}
use Rattle.tree_descent.specs.Leaves.{cut_in}
use Rattle.tree_descent.specs.Paths.{PicksChild}
use Rattle.tree_descent.proofs.PageLemmas.{may_give_back}
use Rattle.tree_descent.proofs.WayLemmas.{way_shape, way_page, leaves_page}
use Rattle.tree_descent.proofs.ways.leave.Goals as goal

pub give_back-requires-clause-held : goal.give_back-requires-clause-held
give_back-requires-clause-held g c = let held = c.requires.held.1 in
    may_give_back c.args.pass.now c.requires.known c.args.block c.args.index (suc c.requires.held.0)
    held.frame held.knows held.is

pub returns-clause-left : goal.returns-clause-left
returns-clause-left g c = λ p level way.
    (let tuple = g.T.Fields.fields_of c.args.tuple.now in
    leaves_page way
    (subst
    (λ (s : Shape). PicksChild (cut_in s c.args.index c.args.mode tuple) way.page.is.page.rows
    c.picked_child-child.result) (way_shape way)
    (c.picked_child-child.ensures level (way_page way))) c.give_back.ensures.gave)
