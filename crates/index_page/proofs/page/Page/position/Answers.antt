use Rattle.std.proofs.Common.{◌≡◌, Some, length, ap, subst, arith}
use Rattle.index_page.specs.Page.{PageRows, IsRowOf, IsPageInOrder}
use Rattle.index_page.specs.Rows.{find_row, placed_row}
use Rattle.index_page.proofs.RowLemmas.{each_found, get_below}
use Rattle.index_page.proofs.KeyLemmas.{position_of}
use Rattle.index_page.proofs.AppendLemmas.{rows_within_load}
use Rattle.index_page.proofs.page.Page.position.Goals as goal

pub cut-requires : goal.cut-requires
cut-requires c =
    let suits = each_found (IsRowOf c.self.inside.head) c.self.inside.rows c.args.place _ c.self.invariant.each c.record.ensures in
    omega (arith, suits.fields, ap (λ (p : PageRows). p.head.fields) c.self.view_is)

pub returns-clause-row : goal.returns-clause-row
returns-clause-row c =
    let order = subst IsPageInOrder c.self.view_is c.self.invariant in
    let found = subst (λ (p : PageRows). find_row c.args.place p.rows ≡ Some (placed_row c.args.place c.record.result.key c.record.result.body)) c.self.view_is c.record.ensures in
    position_of c.args.self.now c.args.place _ c.cut.result order found c.cut.ensures.out c.cut.ensures.past

pub returns-clause-few : goal.returns-clause-few
returns-clause-few c =
    let here = returns-clause-row c in
    omega (arith, get_below c.args.self.now.rows c.cut.result here.row here.there, rows_within_load c.self.inside.rows, c.self.invariant.fits, ap (λ (p : PageRows). length p.rows) c.self.view_is)
