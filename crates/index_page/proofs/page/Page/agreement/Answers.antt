use Rattle.std.proofs.Common.{Option, Some, ℕ, List, sym, ap, subst, arith}
use Rattle.index_page.specs.Rows.{Row, IsAt}
use Rattle.index_page.specs.Page.{PageRows, IsRowOf}
use Rattle.index_page.specs.Search.{nth_row}
use Rattle.index_page.proofs.RowLemmas.{at_get}
use Rattle.list_facts.proofs.Each.{each_get}
use Rattle.index_page.proofs.page.Page.agreement.Goals as goal

pub returns-in-Some-clause-place : goal.returns-in-Some-clause-place
returns-in-Some-clause-place g c =
    let here = at_get c.self.inside.rows _ _ c.self.invariant.places c.stored-place.ensures in
    let rows = ap (λ (p : PageRows). p.rows) c.self.view_is in
    let at = subst (λ (zs : List Row). IsAt zs (Some c.stored-place.result.0) (nth_row zs (Some c.in-Some.i))) rows here in
    subst (λ (n : Option ℕ). IsAt c.args.self.now.rows (Some c.stored-place.result.0) (nth_row c.args.self.now.rows n)) (sym c.in-Some.is) at

pub matches-requires : goal.matches-requires
matches-requires g c =
    omega (arith, c.requires.fields, (each_get (IsRowOf c.self.inside.head) c.self.inside.rows c.in-Some.i _ c.self.invariant.each c.stored-place.ensures).fields, ap (λ (p : PageRows). p.head.fields) c.self.view_is)
