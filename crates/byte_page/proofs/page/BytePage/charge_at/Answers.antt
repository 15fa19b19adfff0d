use Rattle.std.proofs.Common.{◌≡◌, ◌∙◌, ◌+◌, ◌-◌, ℕ, List, Some, IsSome, sym, ap, subst, length, arith}
use Rattle.compact_record.specs.Reading.{record_at}
use Rattle.compact_record.proofs.LawLemmas.{record_size}
use Rattle.index_page.specs.Rows.{Row, find_row}
use Rattle.index_page.specs.Loads.{charge_of}
use Rattle.page_rows.specs.Reading.{row_in_bytes}
use Rattle.page_rows.proofs.SpellingLemmas.{row_there, row_found}
use Rattle.page_rows.proofs.SumLemmas.{charge_of_record}
use Rattle.byte_page.specs.Form.{GappedPage}
use Rattle.byte_page.proofs.page.BytePage.charge_at.Goals as goal

pub measure-extent-requires-clause-page : goal.measure-extent-requires-clause-page
measure-extent-requires-clause-page c = omega (arith, c.self.invariant.rows.spells.page.is.len, ap (λ (b : List ℕ). length b) c.deref.ensures.value)

pub measure-extent-requires-clause-there : goal.measure-extent-requires-clause-there
measure-extent-requires-clause-there c =
    let there = subst (λ (rows : List Row). IsSome (find_row c.args.place rows)) (sym (ap (λ (f : GappedPage). f.page.rows) c.self.view_is)) c.requires in
    rw c.deref.ensures.value (row_there c.args.place c.self.invariant.rows there)

pub overflow_sub-result : goal.overflow_sub-result
overflow_sub-result c =
    let there = subst (λ (rows : List Row). IsSome (find_row c.args.place rows)) (sym (ap (λ (f : GappedPage). f.page.rows) c.self.view_is)) c.requires in
    let h = row_there c.args.place c.self.invariant.rows there in
    let start = rw c.deref.ensures.value at c.measure-extent.ensures.start in
    let end = rw c.deref.ensures.value at c.measure-extent.ensures.end in
    omega (arith, start, end, record_size (record_at c.self.inside.bytes.items c.args.place c.self.inside.fields) h.sound)

pub overflow_add-result : goal.overflow_add-result
overflow_add-result c =
    let there = subst (λ (rows : List Row). IsSome (find_row c.args.place rows)) (sym (ap (λ (f : GappedPage). f.page.rows) c.self.view_is)) c.requires in
    let h = row_there c.args.place c.self.invariant.rows there in
    let end = rw c.deref.ensures.value at c.measure-extent.ensures.end in
    omega (arith, end, h.stands.fits, c.self.invariant.rows.spells.page.is.len)

pub returns : goal.returns
returns c = λ row found.
    let bytes = c.self.inside.bytes.items in
    let fields = c.self.inside.fields in
    let same = ap (λ (f : GappedPage). f.page.rows) c.self.view_is in
    let there = subst (λ (rows : List Row). IsSome (find_row c.args.place rows)) (sym same) c.requires in
    let h = row_there c.args.place c.self.invariant.rows there in
    let start = rw c.deref.ensures.value at c.measure-extent.ensures.start in
    let end = rw c.deref.ensures.value at c.measure-extent.ensures.end in
    let told : Some (row_in_bytes bytes fields c.args.place) ≡ Some row = sym (row_found c.args.place c.self.invariant.rows there) ∙ ap (find_row c.args.place) same ∙ found in
    let is : row_in_bytes bytes fields c.args.place ≡ row = cc in
    let r = record_at bytes c.args.place fields in
    subst (λ (x : Row). c.measure-extent.result.end - c.measure-extent.result.start + 1 ≡ charge_of x.key x.body) is
    (omega (arith, start, end, record_size r h.sound, charge_of_record c.args.place r))
