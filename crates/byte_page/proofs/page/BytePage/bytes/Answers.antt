use Rattle.std.proofs.Common.{◌≡◌, ◌∙◌, ℕ, List, sym, ap, subst}
use Rattle.byte_page.specs.Form.{GappedPage, form_in_bytes, IsBytePage}
use Rattle.byte_page.proofs.page.BytePage.bytes.Goals as goal

pub returns : goal.returns
returns c =
    let bytes = c.as_slice.ensures.value in
    let fields = ap (λ (f : GappedPage). f.page.head.fields) c.self.view_is in
    record {
      form = subst (λ (n : ℕ). form_in_bytes c.as_slice.result.now n ≡ c.args.self.now) fields (ap (λ (b : List ℕ). form_in_bytes b c.self.inside.fields) bytes ∙ c.self.view_is);
      sound = subst (λ (n : ℕ). IsBytePage c.as_slice.result.now n) fields (subst (λ (b : List ℕ). IsBytePage b c.self.inside.fields) (sym bytes) c.self.invariant);
    }
