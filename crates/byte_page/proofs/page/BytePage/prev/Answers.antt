use Rattle.std.proofs.Common.{◌≡◌, ◌∙◌, ℕ, sym, ap, subst, Some, List, arith}
use Rattle.key_tuple.specs.declared.mode.Mode.TheVariants.{Ge}
use Rattle.index_page.specs.Rows.{Row, find_row}
use Rattle.index_page.specs.Page.{IsRowOf}
use Rattle.index_page.specs.Changes.{PrevIs}
use Rattle.page_rows.specs.Reading.{rows_in_bytes, row_of_record}
use Rattle.page_search.specs.Cuts.{FindsCut}
use Rattle.index_page.proofs.RowLemmas.{each_found}
use Rattle.byte_page.specs.Form.{head_in_bytes, GappedPage}
use Rattle.byte_page.proofs.SearchLemmas.{prev_is}
use Rattle.byte_page.proofs.page.BytePage.prev.Goals as goal

pub find_cut-requires-clause-tuple : goal.find_cut-requires-clause-tuple
find_cut-requires-clause-tuple c =
    let bytes = c.self.inside.bytes.items in
    let fields = c.self.inside.fields in
    let row = row_of_record c.args.place c.row-row.result in
    let found : find_row c.args.place (rows_in_bytes bytes fields) ≡ Some row = ap (λ (f : GappedPage). find_row c.args.place f.page.rows) c.self.view_is ∙ c.row-row.ensures in
    let suits = each_found (IsRowOf (head_in_bytes bytes fields)) (rows_in_bytes bytes fields) c.args.place row c.self.invariant.order.each found in
    omega (arith, suits.fields)

pub returns : goal.returns
returns c =
    let bytes = c.self.inside.bytes.items in
    let fields = c.self.inside.fields in
    let same = ap (λ (f : GappedPage). f.page.rows) c.self.view_is in
    let row = row_of_record c.args.place c.row-row.result in
    let found : find_row c.args.place (rows_in_bytes bytes fields) ≡ Some row = ap (find_row c.args.place) same ∙ c.row-row.ensures in
    let cut = subst (λ (b : List ℕ). FindsCut (rows_in_bytes b fields) Ge row.key c.find_cut.result) c.deref.ensures.value c.find_cut.ensures in
    subst (λ (rows : List Row). PrevIs rows c.args.place c.place_left.result) same
    (subst (PrevIs (rows_in_bytes bytes fields) c.args.place) (sym c.place_left.ensures) (prev_is c.args.place row c.find_cut.result.before c.self.invariant found cut.cuts))
