use Rattle.std.proofs.Common.{◌∙◌, List, ℕ, subst, sym, ap}
use Rattle.page_rows.specs.Spelling.{IsPageOfRows}
use Rattle.page_rows.specs.Inserting.{gaps_in_bytes}
use Rattle.byte_page.specs.Form.{GappedPage}
use Rattle.byte_page.proofs.page.BytePage.rest.Goals as goal

pub returns : goal.returns
returns c =
    let value = c.deref.ensures.value in
    let fields = c.self.inside.fields in
    let rest = c.page_rest.ensures fields (subst (λ (b : List ℕ). IsPageOfRows b fields) (sym value) c.self.invariant.rows) in
    rest ∙ ap (λ (b : List ℕ). (gaps_in_bytes b fields).rest) value ∙ ap (λ (f : GappedPage). f.gaps.rest) c.self.view_is
