use Rattle.std.proofs.Common.{◌≡◌, ◌∙◌, ◌-◌, ◌≤◌, true, sym, ap, arith}
use Rattle.index_page.specs.Loads.{charge_of, load_of}
use Rattle.index_page.specs.Refusals.{free_of, takes}
use Rattle.page_rows.proofs.AppendLemmas.{tight_takes}
use Rattle.byte_page.specs.Form.{GappedPage}
use Rattle.byte_page.proofs.MovingLemmas.{same_refusal}
use Rattle.byte_page.proofs.page.BytePage.takes_what_fits.Goals as goal

pub returns : goal.returns
returns c = λ key body some most.
    let form = c.args.self.now in
    let need = charge_of key body in
    let is = c.self.view_is in
    let tight = ap (λ (f : GappedPage). f.garbage) is ∙ c.requires in
    let load = ap (λ (f : GappedPage). load_of f.page.rows) is in
    let fits = c.self.invariant.order.fits in
    let has_gap : need ≤ free_of form.page → takes form.gaps (need - 1) ≡ true =
    λ room. sym (ap (λ (f : GappedPage). takes f.gaps (need - 1)) is) ∙ tight_takes (need - 1) c.self.invariant.rows.spells tight (omega arith) (omega arith) in
    same_refusal (free_of form.page) need form.gaps has_gap most
