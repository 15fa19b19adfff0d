use Rattle.index_page.specs.Page.{PageRows}
use Rattle.index_page.specs.Rows.{placed_row}
use Rattle.std.specs.List.{slice_get}
use Rattle.std.proofs.Common.{arith, ap, sym, ◌∙◌}
use Rattle.index_page.proofs.RowLemmas.{get_below}
use Rattle.index_page.proofs.AppendLemmas.{rows_within_load}
use Rattle.index_page.proofs.page.Page.position_near.Goals as goal

pub returns-then-stored-place-clause-few : goal.returns-then-stored-place-clause-few
returns-then-stored-place-clause-few c =
    let below = get_below c.self.inside.rows c.args.number _ c.stored.ensures in
    omega (arith, below, rows_within_load c.self.inside.rows, c.self.invariant.fits)

pub returns-then-stored-place-clause-row : goal.returns-then-stored-place-clause-row
returns-then-stored-place-clause-row c =
    let found = c.stored.result in
    record {
      row = placed_row found.0 found.1.key found.1.body;
      there = ap (λ (p : PageRows). slice_get p.rows c.args.number) (sym c.self.view_is) ∙ c.stored.ensures;
      place_is = c.if-stored-place.true;
    }
