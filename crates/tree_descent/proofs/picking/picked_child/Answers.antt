use Rattle.std.proofs.Common.{◌≤◌, length, suc, sym, ap, subst, ◌∙◌, arith}
use Rattle.latch_space.specs.Passes.{view}
use Rattle.index_page.specs.Page.{PageRows}
use Rattle.forest_world.specs.Held.{shape_of_pass}
use Rattle.tree_descent.proofs.PageLemmas.{read_fields, read_level, read_picks}
use Rattle.tree_descent.proofs.InnerLemmas.{above_has_rows}
use Rattle.tree_descent.proofs.picking.picked_child.Goals as goal

pub held_page-requires-clause-held : goal.held_page-requires-clause-held
held_page-requires-clause-held g c =
    (c.args.index, (suc c.requires.held.0, c.requires.held.1))

pub child_in-requires-clause-fields : goal.child_in-requires-clause-fields
child_in-requires-clause-fields g c = let level = suc c.requires.held.0 in
    let h = c.requires.held.1 in
    subst (λ k. length (g.T.Fields.fields_of c.args.tuple.now) ≤ k)
    (sym (read_fields (shape_of_pass c.args.pass.now) c.args.block c.args.index level h.frame h.is
    h.order c.held_page.result.now (c.held_page.ensures c.args.index level h))) c.requires.fields

pub child_in-requires-clause-inner : goal.child_in-requires-clause-inner
child_in-requires-clause-inner g c = let level = suc c.requires.held.0 in
    let h = c.requires.held.1 in
    let is =
    read_level (shape_of_pass c.args.pass.now) c.args.block c.args.index level h.frame h.is h.order
    c.held_page.result.now (c.held_page.ensures c.args.index level h) in
    λ e. omega (arith, e, is)

pub child_in-requires-clause-some : goal.child_in-requires-clause-some
child_in-requires-clause-some g c = let level = c.requires.held.0 in
    let h = c.requires.held.1 in
    λ none. above_has_rows (view c.args.pass.now) c.fits.ensures c.args.block c.args.index level h
    (ap (λ (z : PageRows). z.rows) (sym (c.held_page.ensures c.args.index (suc level) h)) ∙ none)

pub returns : goal.returns
returns g c = λ level h. read_picks (shape_of_pass c.args.pass.now) c.args.block c.args.index
    (suc level) h.frame h.is h.order c.held_page.result.now
    (c.held_page.ensures c.args.index (suc level) h) c.args.mode
    (g.T.Fields.fields_of c.args.tuple.now) c.child_in.result c.child_in.ensures
