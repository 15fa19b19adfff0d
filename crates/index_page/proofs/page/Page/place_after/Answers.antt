use Rattle.std.proofs.Common.{◌≡◌, Some, length, ap, subst, arith}
use Rattle.std.specs.List.{slice_get}
use Rattle.index_page.specs.Rows.{placed_row}
use Rattle.index_page.specs.Page.{PageRows, IsPageInOrder}
use Rattle.index_page.proofs.BesideLemmas.{after_some, after_none}
use Rattle.index_page.proofs.page.Page.place_after.Goals as goal

pub returns-then-count-len : goal.returns-then-count-len
returns-then-count-len c =
    let order = subst IsPageInOrder c.self.view_is c.self.invariant in
    let row = placed_row c.stored.result.0 c.stored.result.1.key c.stored.result.1.body in
    let there = subst (λ (p : PageRows). slice_get p.rows c.args.count ≡ Some row) c.self.view_is c.stored.ensures in
    after_some c.args.self.now.rows c.args.count row order.places there

pub returns-else-count-len : goal.returns-else-count-len
returns-else-count-len c = after_none c.args.self.now.rows c.args.count (omega (arith, ap (λ (p : PageRows). length p.rows) c.self.view_is))
