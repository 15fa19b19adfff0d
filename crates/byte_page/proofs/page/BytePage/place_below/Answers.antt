use Rattle.std.proofs.Common.{ℕ, List, ap, subst}
use Rattle.key_tuple.specs.KeyPlace.{not_below}
use Rattle.key_tuple.specs.declared.mode.Mode.TheVariants.{Ge}
use Rattle.index_page.specs.Rows.{Row}
use Rattle.page_rows.specs.Reading.{rows_in_bytes}
use Rattle.page_search.specs.Cuts.{CutsRows, FindsCut}
use Rattle.byte_page.specs.Form.{GappedPage}
use Rattle.byte_page.proofs.page.BytePage.place_below.Goals as goal

pub returns : goal.returns
returns g c =
    let key = g.A.Fields.fields_of c.args.key.now in
    let found = subst (λ (b : List ℕ). FindsCut (rows_in_bytes b c.self.inside.fields) Ge key c.find_cut.result) c.deref.ensures.value c.find_cut.ensures in
    subst (λ (rows : List Row). CutsRows rows (not_below key) c.find_cut.result.before) (ap (λ (f : GappedPage). f.page.rows) c.self.view_is) found.cuts
