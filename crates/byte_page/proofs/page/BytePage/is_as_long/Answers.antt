use Rattle.std.proofs.Common.{◌≡◌, ◌∙◌, nat_eq, ap, ap₂, sym, length, List, ℕ}
use Rattle.list_facts.proofs.Places.{same_some}
use Rattle.index_page.specs.Rows.{Row}
use Rattle.index_page.specs.Page.{IsRowOf}
use Rattle.index_page.specs.Refusals.{is_as_long}
use Rattle.index_page.proofs.RowLemmas.{each_found}
use Rattle.page_rows.specs.Reading.{row_of_record}
use Rattle.byte_page.proofs.ReplaceLemmas.{level_row}
use Rattle.byte_page.proofs.page.BytePage.is_as_long.Goals as goal

pub returns : goal.returns
returns c = λ row found.
    let page = c.args.self.now.page in
    let r = c.row.result in
    let here = row_of_record c.args.place r in
    let same : here ≡ row = same_some here row (sym c.row.ensures ∙ found) in
    let suits = each_found (IsRowOf page.head) page.rows c.args.place here c.is_in_order.ensures.each c.row.ensures in
    let body = level_row r.kind r.tail page.head.level c.requires.level suits.body in
    ap₂ (λ (a b : List ℕ). nat_eq (length a) (length b)) c.as_bytes.ensures.bytes c.tail.ensures.tail
    ∙ ap (is_as_long c.args.value.now) (sym body) ∙ ap (λ (x : Row). is_as_long c.args.value.now x.body) same
