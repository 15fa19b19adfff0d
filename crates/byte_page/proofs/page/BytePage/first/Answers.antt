use Rattle.std.proofs.Common.{sym, ap, subst, List}
use Rattle.index_page.specs.Rows.{Row, first_of_rows, IsAt}
use Rattle.page_rows.proofs.SpellingLemmas.{infimum_at, first_is}
use Rattle.byte_page.specs.Form.{GappedPage}
use Rattle.byte_page.proofs.page.BytePage.first.Goals as goal

pub returns : goal.returns
returns c =
    let page = c.self.invariant.rows in
    let r = page.spells in
    let at = c.next_of.ensures page.parts.mirror 0 (rw c.deref.ensures.value (infimum_at r.page.is)) in
    let first = first_is c.next_of.result r (sym at.placed) in
    subst (λ (rows : List Row). IsAt rows c.row_place.result (first_of_rows rows)) (ap (λ (f : GappedPage). f.page.rows) c.self.view_is) (rw c.row_place.ensures first)
