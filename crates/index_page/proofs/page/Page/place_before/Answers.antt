use Rattle.std.proofs.Common.{◌≡◌, ◌-◌, Some, subst}
use Rattle.std.specs.List.{slice_get}
use Rattle.index_page.specs.Rows.{placed_row}
use Rattle.index_page.specs.Page.{PageRows, IsPageInOrder}
use Rattle.index_page.proofs.BesideLemmas.{before_some}
use Rattle.index_page.proofs.page.Page.place_before.Goals as goal

pub returns-else-count-eq0 : goal.returns-else-count-eq0
returns-else-count-eq0 c =
    let order = subst IsPageInOrder c.self.view_is c.self.invariant in
    let row = placed_row c.stored.result.0 c.stored.result.1.key c.stored.result.1.body in
    let there = subst (λ (p : PageRows). slice_get p.rows (c.args.count - 1) ≡ Some row) c.self.view_is c.stored.ensures in
    before_some c.args.self.now.rows c.args.count row c.if-count-eq0.false order.places there
