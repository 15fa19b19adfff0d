use Rattle.std.proofs.Common.{◌∙◌, sym, ap, length}
use Rattle.page_rows.proofs.SpellingLemmas.{count_rows}
use Rattle.byte_page.specs.Form.{GappedPage}
use Rattle.byte_page.proofs.page.BytePage.count.Goals as goal

pub returns : goal.returns
returns c =
    let page = c.self.invariant.rows in
    let is = page.spells.page.is in
    let rows = c.row_count.ensures page.parts.mirror (rw c.deref.ensures.value is) in
    let here = c.self.inside in
    rows ∙ sym is.head.n_recs ∙ sym (count_rows here.bytes.items here.fields) ∙ ap (λ (f : GappedPage). length f.page.rows) c.self.view_is
