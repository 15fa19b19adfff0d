use Rattle.std.proofs.Common.{◌≤◌, length, sym, subst}
use Rattle.index_page.specs.Page.{PageRows}
use Rattle.index_page.specs.Search.{Finds}
use Rattle.forest_world.specs.Held.{shape_of_pass}
use Rattle.tree_descent.proofs.PageLemmas.{read_fields}
use Rattle.tree_descent.proofs.picking.spot_on.Goals as goal

pub held_page-requires-clause-held : goal.held_page-requires-clause-held
held_page-requires-clause-held g c = (c.args.index, c.requires.held)

pub search-requires : goal.search-requires
search-requires g c = let level = c.requires.held.0 in let h = c.requires.held.1 in
    subst (λ k. length (g.T.Fields.fields_of c.args.tuple.now) ≤ k)
    (sym (read_fields (shape_of_pass c.args.pass.now) c.args.block c.args.index level h.frame h.is
    h.order c.held_page.result.now (c.held_page.ensures c.args.index level h))) c.requires.fields

pub returns : goal.returns
returns g c = λ level h. subst
    (λ (z : PageRows). Finds c.args.mode (g.T.Fields.fields_of c.args.tuple.now) z.rows
    c.search.result) (c.held_page.ensures c.args.index level h) c.search.ensures
