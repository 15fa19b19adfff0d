use Rattle.std.proofs.Common.{◌∙◌, sym, ap}
use Rattle.byte_page.specs.Form.{GappedPage}
use Rattle.byte_page.proofs.page.BytePage.garbage.Goals as goal

pub returns : goal.returns
returns c =
    let page = c.self.invariant.rows in
    let is = page.spells.page.is in
    c.garbage.ensures page.parts.mirror (rw c.deref.ensures.value is) ∙ sym is.head.garbage ∙ ap (λ (f : GappedPage). f.garbage) c.self.view_is
