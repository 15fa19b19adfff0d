use Rattle.std.proofs.Common.{◌≡◌, ◌+◌, ◌≤◌, Some, take, arith, subst, ap}
use Rattle.std.proofs.lemmas.List.Sums.{sum_by-take-le}
use Rattle.std.specs.List.{slice_get}
use Rattle.index_page.specs.Rows.{placed_row}
use Rattle.index_page.specs.Page.{PageRows, IsRowOf}
use Rattle.list_facts.proofs.Each.{each_get}
use Rattle.index_page.specs.Loads.{load_of}
use Rattle.index_page.proofs.LoadLemmas.{row_charge, load_with}
use Rattle.index_page.proofs.page.Page.load_of_first.Goals as goal

pub charge-load-requires-clause-short : goal.charge-load-requires-clause-short
charge-load-requires-clause-short c = (each_get (IsRowOf c.self.inside.head) c.self.inside.rows c.loop-i.i _ c.self.invariant.each c.stored.ensures).short

pub loop-i-preserved : goal.loop-i-preserved
loop-i-preserved c =
    let row = placed_row c.stored.result.0 c.stored.result.1.key c.stored.result.1.body in
    let there = subst (λ (p : PageRows). slice_get p.rows c.loop-i.i ≡ Some row) c.self.view_is c.stored.ensures in
    load_with c.args.self.now.rows c.loop-i.i row c.loop-i.load c.charge-load.result there c.loop-i.invariant c.charge-load.ensures.charge

pub overflow_add-load : goal.overflow_add-load
overflow_add-load c =
    let part : load_of (take (c.loop-i.i + 1) c.args.self.now.rows) ≤ load_of c.args.self.now.rows = sum_by-take-le row_charge c.args.self.now.rows (c.loop-i.i + 1) in
    omega (arith, part, loop-i-preserved c, c.self.invariant.fits, ap (λ (p : PageRows). load_of p.rows) c.self.view_is)

pub charge-load-requires-clause-limits : goal.charge-load-requires-clause-limits
charge-load-requires-clause-limits c =
    (each_get (IsRowOf c.self.inside.head) c.self.inside.rows c.loop-i.i _ c.self.invariant.each c.stored.ensures).limits
