use Rattle.std.proofs.Common.{sym, ap, subst}
use Rattle.index_page.specs.declared.head.PageHead.{PageHead}
use Rattle.index_page.specs.Page.{PageRows, IsRowOf}
use Rattle.index_page.proofs.RowLemmas.{each_found}
use Rattle.index_page.proofs.page.Page.row.Goals as goal

pub new-requires-clause-level : goal.new-requires-clause-level
new-requires-clause-level c = (each_found (IsRowOf c.self.inside.head) c.self.inside.rows c.args.place _ c.self.invariant.each c.record.ensures).body

pub new-requires-clause-short : goal.new-requires-clause-short
new-requires-clause-short c = (each_found (IsRowOf c.self.inside.head) c.self.inside.rows c.args.place _ c.self.invariant.each c.record.ensures).short

pub returns-clause-suits : goal.returns-clause-suits
returns-clause-suits c =
    let suits = each_found (IsRowOf c.self.inside.head) c.self.inside.rows c.args.place _ c.self.invariant.each c.record.ensures in
    subst (λ (head : PageHead). IsRowOf head c.new.result.row) (ap (λ (p : PageRows). p.head) c.self.view_is) (subst (IsRowOf c.self.inside.head) (sym c.new.ensures.row) suits)
