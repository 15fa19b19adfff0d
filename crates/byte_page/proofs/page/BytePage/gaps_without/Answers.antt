use Rattle.std.proofs.Common.{◌≡◌, ◌-◌, ◌∙◌, ℕ, List, IsSome, sym, ap, subst, length}
use Rattle.list_facts.proofs.Places.{same_some}
use Rattle.index_page.specs.Rows.{Row, find_row}
use Rattle.index_page.specs.Loads.{charge_of}
use Rattle.page_rows.specs.Reading.{row_in_bytes}
use Rattle.page_rows.specs.Slots.{sizes_in_bytes}
use Rattle.page_rows.specs.Inserting.{gaps_in_bytes}
use Rattle.page_rows.specs.Deleting.{gaps_after, CanDeleteRow}
use Rattle.page_rows.proofs.SpellingLemmas.{row_found}
use Rattle.byte_page.specs.Form.{GappedPage}
use Rattle.byte_page.specs.Setting.{gaps_less}
use Rattle.byte_page.proofs.DeleteLemmas.{row_stands, can_be_deleted, gaps_at}
use Rattle.byte_page.proofs.page.BytePage.gaps_without.Goals as goal

pub gaps_without-requires : goal.gaps_without-requires
gaps_without-requires c =
    let bytes = c.self.inside.bytes.items in
    let fields = c.self.inside.fields in
    let there = subst (λ (f : GappedPage). IsSome (find_row c.args.place f.page.rows)) (sym c.self.view_is) c.requires in
    let s = row_stands c.self.invariant there in
    let row = row_in_bytes bytes fields c.args.place in
    (s.left, row, s.right, subst (λ (b : List ℕ). CanDeleteRow b fields s.left row s.right c.args.place) (sym c.deref.ensures.value) (can_be_deleted c.self.invariant there))

pub returns : goal.returns
returns c = λ row found.
    let bytes = c.self.inside.bytes.items in
    let fields = c.self.inside.fields in
    let value = c.deref.ensures.value in
    let there = subst (λ (f : GappedPage). IsSome (find_row c.args.place f.page.rows)) (sym c.self.view_is) c.requires in
    let s = row_stands c.self.invariant there in
    let here = row_in_bytes bytes fields c.args.place in
    let told = c.gaps_without.ensures s.left here s.right (subst (λ (b : List ℕ). CanDeleteRow b fields s.left here s.right c.args.place) (sym value) (can_be_deleted c.self.invariant there)) in
    let is = subst (λ (b : List ℕ). c.gaps_without.result ≡ gaps_after (gaps_in_bytes b fields) (sizes_in_bytes b) (length s.left) (charge_of here.key here.body - 1)) value told
    ∙ gaps_at c.args.place c.self.invariant there in
    let same : here ≡ row = same_some here row (sym (row_found c.args.place c.self.invariant.rows there) ∙ ap (λ (f : GappedPage). find_row c.args.place f.page.rows) c.self.view_is ∙ found) in
    subst (λ (x : Row). c.gaps_without.result ≡ gaps_less c.args.self.now x) same (subst (λ (f : GappedPage). c.gaps_without.result ≡ gaps_less f here) c.self.view_is is)
