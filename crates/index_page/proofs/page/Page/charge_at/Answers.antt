use Rattle.std.proofs.Common.{◌≡◌, sym, ap, ◌∙◌, subst, Some}
use Rattle.list_facts.proofs.Places.{same_some}
use Rattle.index_page.specs.Rows.{find_row}
use Rattle.index_page.specs.Page.{PageRows, IsRowOf}
use Rattle.index_page.proofs.RowLemmas.{each_found}
use Rattle.index_page.proofs.LoadLemmas.{row_charge}
use Rattle.index_page.proofs.page.Page.charge_at.Goals as goal

pub charge-requires-clause-limits : goal.charge-requires-clause-limits
charge-requires-clause-limits c = (each_found (IsRowOf c.self.inside.head) c.self.inside.rows c.args.place _ c.self.invariant.each c.record.ensures).limits

pub charge-requires-clause-short : goal.charge-requires-clause-short
charge-requires-clause-short c = (each_found (IsRowOf c.self.inside.head) c.self.inside.rows c.args.place _ c.self.invariant.each c.record.ensures).short

pub returns : goal.returns
returns c = λ row there.
    let here = subst (λ (p : PageRows). find_row c.args.place p.rows ≡ Some row) (sym c.self.view_is) there in
    c.charge.ensures.charge ∙ ap row_charge (same_some _ row (sym c.record.ensures ∙ here))
