use Rattle.std.proofs.Common.{◌≡◌, ◌≤◌, ◌+◌, ◌∙◌, ℕ, List, IsSome, sym, ap, subst, length, arith}
use Rattle.list_facts.proofs.Places.{same_some}
use Rattle.compact_record.specs.Record.{PlacedRecord, finish}
use Rattle.compact_record.specs.Copying.{placed_from}
use Rattle.compact_record.specs.Reading.{record_at}
use Rattle.compact_record.proofs.LawLemmas.{record_size}
use Rattle.index_page.specs.Rows.{Row, find_row}
use Rattle.index_page.specs.Page.{IsRowOf}
use Rattle.index_page.proofs.RowLemmas.{each_found}
use Rattle.index_page.proofs.RoomLemmas.{charge_within}
use Rattle.page_rows.specs.Reading.{rows_in_bytes, row_in_bytes}
use Rattle.page_rows.proofs.SpellingLemmas.{row_there, row_found}
use Rattle.page_rows.proofs.SumLemmas.{charge_of_record}
use Rattle.byte_page.specs.Form.{head_in_bytes, GappedPage}
use Rattle.byte_page.proofs.page.BytePage.copy_row.Goals as goal

pub copy_record-requires-clause-there : goal.copy_record-requires-clause-there
copy_record-requires-clause-there c =
    let there = subst (λ (f : GappedPage). IsSome (find_row c.args.place f.page.rows)) (sym c.self.view_is) c.requires.there in
    rw c.deref.ensures.value (row_there c.args.place c.self.invariant.rows there)

pub copy_record-requires-clause-room : goal.copy_record-requires-clause-room
copy_record-requires-clause-room c =
    let bytes = c.self.inside.bytes.items in
    let fields = c.self.inside.fields in
    let place = c.args.place in
    let there = subst (λ (f : GappedPage). IsSome (find_row place f.page.rows)) (sym c.self.view_is) c.requires.there in
    let h = row_there place c.self.invariant.rows there in
    let head = head_in_bytes bytes fields in
    let row = row_in_bytes bytes fields place in
    let suits = each_found (IsRowOf head) (rows_in_bytes bytes fields) place row c.self.invariant.order.each (row_found place c.self.invariant.rows there) in
    let r = record_at bytes place fields in
    let room : finish r ≤ r.start + length c.args.to.now = omega (arith, record_size r h.sound, charge_of_record place r, charge_within head row suits, c.requires.room) in
    subst (λ (b : List ℕ). finish (record_at b place fields) ≤ (record_at b place fields).start + length c.args.to.now) (sym c.deref.ensures.value) room

pub returns-clause-key : goal.returns-clause-key
returns-clause-key c = λ row found.
    let bytes = c.self.inside.bytes.items in
    let fields = c.self.inside.fields in
    let place = c.args.place in
    let new = c.copy_record.new.to in
    let at = c.copy_record.result in
    let there = subst (λ (f : GappedPage). IsSome (find_row place f.page.rows)) (sym c.self.view_is) c.requires.there in
    let here = row_in_bytes bytes fields place in
    let same : here ≡ row = same_some here row (sym (row_found place c.self.invariant.rows there) ∙ ap (λ (f : GappedPage). find_row place f.page.rows) c.self.view_is ∙ found) in
    let copied : record_at new at fields ≡ placed_from 0 (record_at bytes place fields) =
    subst (λ (b : List ℕ). record_at new at fields ≡ placed_from 0 (record_at b place fields)) c.deref.ensures.value c.copy_record.ensures.same in
    subst (λ (n : ℕ). (record_at new at n).key ≡ row.key) (ap (λ (f : GappedPage). f.page.head.fields) c.self.view_is)
    (ap (λ (r : PlacedRecord). r.key) copied ∙ ap (λ (x : Row). x.key) same)
