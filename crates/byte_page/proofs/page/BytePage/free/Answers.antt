use Rattle.std.proofs.Common.{◌≡◌, List, ℕ, subst, sym, arith}
use Rattle.index_page.specs.Loads.{load_of}
use Rattle.page_rows.specs.Reading.{rows_in_bytes}
use Rattle.page_rows.specs.Spelling.{IsPageOfRows}
use Rattle.byte_page.proofs.page.BytePage.free.Goals as goal

pub overflow_sub-result : goal.overflow_sub-result
overflow_sub-result c =
    let value = c.deref.ensures.value in
    let fields = c.self.inside.fields in
    let load = c.page_load.ensures fields (subst (λ (b : List ℕ). IsPageOfRows b fields) (sym value) c.self.invariant.rows) in
    let here = subst (λ (b : List ℕ). c.page_load.result ≡ load_of (rows_in_bytes b fields)) value load in
    let fits = c.self.invariant.order.fits in
    omega (arith, here, fits)
