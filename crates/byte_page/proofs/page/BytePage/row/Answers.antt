use Rattle.std.proofs.Common.{◌∙◌, sym, ap, subst, IsSome, Some, List}
use Rattle.compact_record.specs.Record.{PlacedRecord}
use Rattle.index_page.specs.Rows.{Row, find_row}
use Rattle.page_rows.specs.Reading.{row_of_record}
use Rattle.page_rows.proofs.SpellingLemmas.{row_there, row_found}
use Rattle.byte_page.specs.Form.{GappedPage}
use Rattle.byte_page.proofs.page.BytePage.row.Goals as goal

pub view-requires : goal.view-requires
view-requires c =
    let there = subst (λ (rows : List Row). IsSome (find_row c.args.place rows)) (sym (ap (λ (f : GappedPage). f.page.rows) c.self.view_is)) c.requires in
    rw c.deref.ensures.value (row_there c.args.place c.self.invariant.rows there)

pub returns : goal.returns
returns c =
    let same = ap (λ (f : GappedPage). f.page.rows) c.self.view_is in
    let there = subst (λ (rows : List Row). IsSome (find_row c.args.place rows)) (sym same) c.requires in
    let found = row_found c.args.place c.self.invariant.rows there in
    ap (find_row c.args.place) (sym same) ∙ found ∙ ap (λ (r : PlacedRecord). Some (row_of_record c.args.place r)) (sym (rw c.deref.ensures.value at c.view.ensures))
