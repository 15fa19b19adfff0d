use Rattle.std.proofs.Common.{[], ℕ, List, ap, subst}
use Rattle.key_tuple.specs.declared.mode.Mode.TheVariants.{Le}
use Rattle.index_page.specs.Rows.{Row, last_of_rows, IsAt}
use Rattle.page_rows.specs.Reading.{rows_in_bytes}
use Rattle.page_search.specs.Cuts.{FindsCut}
use Rattle.byte_page.specs.Form.{GappedPage}
use Rattle.byte_page.proofs.SearchLemmas.{last_is}
use Rattle.byte_page.proofs.page.BytePage.last.Goals as goal

pub returns : goal.returns
returns c =
    let bytes = c.self.inside.bytes.items in
    let fields = c.self.inside.fields in
    let same = ap (λ (f : GappedPage). f.page.rows) c.self.view_is in
    let found = subst (λ (b : List ℕ). FindsCut (rows_in_bytes b fields) Le [] c.find_cut.result) c.deref.ensures.value c.find_cut.ensures in
    let last = last_is c.find_cut.result.before c.self.invariant.rows found.cuts in
    subst (λ (rows : List Row). IsAt rows c.place_left.result (last_of_rows rows)) same (rw c.place_left.ensures last)
