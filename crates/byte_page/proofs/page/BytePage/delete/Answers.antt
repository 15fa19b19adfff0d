use Rattle.std.proofs.Common.{◌∙◌, sym, subst, ap, length, List, ℕ, IsSome}
use Rattle.std.proofs.lemmas.List.{with_items_is}
use Rattle.index_page.specs.Rows.{find_row}
use Rattle.page_rows.specs.Reading.{row_in_bytes}
use Rattle.page_rows.specs.Deleting.{CanDeleteRow, DeletesInBytes}
use Rattle.byte_page.specs.Form.{GappedPage, IsBytePage}
use Rattle.byte_page.proofs.DeleteLemmas.{row_stands, can_be_deleted, RowGoes, row_goes, goes_from}
use Rattle.byte_page.proofs.page.BytePage.delete.Goals as goal

pub delete_row-requires : goal.delete_row-requires
delete_row-requires c =
    let bytes = c.self.inside.bytes.items in
    let fields = c.self.inside.fields in
    let there = subst (λ (f : GappedPage). IsSome (find_row c.args.place f.page.rows)) (sym c.self.view_is) c.requires in
    let s = row_stands c.self.invariant there in
    let row = row_in_bytes bytes fields c.args.place in
    (s.left, row, s.right, subst (λ (b : List ℕ). CanDeleteRow b fields s.left row s.right c.args.place) (sym c.deref_mut.ensures.value) (can_be_deleted c.self.invariant there))

pub invariant_of-self : goal.invariant_of-self
invariant_of-self c =
    let bytes = c.self.inside.bytes.items in
    let fields = c.self.inside.fields in
    let value = c.deref_mut.ensures.value in
    let there = subst (λ (f : GappedPage). IsSome (find_row c.args.place f.page.rows)) (sym c.self.view_is) c.requires in
    let s = row_stands c.self.invariant there in
    let row = row_in_bytes bytes fields c.args.place in
    let made = c.delete_row.ensures s.left row s.right (subst (λ (b : List ℕ). CanDeleteRow b fields s.left row s.right c.args.place) (sym value) (can_be_deleted c.self.invariant there)) in
    let d = subst (λ (b : List ℕ). DeletesInBytes b c.delete_row.new.page fields s.left row s.right) value made in
    let goes = row_goes c.self.invariant there d in
    let written = with_items_is c.self.inside.bytes c.delete_row.new.page
    (d.page.spells.page.is.len ∙ sym c.self.invariant.rows.spells.page.is.len ∙ ap length (sym value) ∙ c.deref_mut.ensures.len) in
    subst (λ (b : List ℕ). IsBytePage b fields) (sym written) goes.page

pub returns : goal.returns
returns c =
    let bytes = c.self.inside.bytes.items in
    let fields = c.self.inside.fields in
    let value = c.deref_mut.ensures.value in
    let there = subst (λ (f : GappedPage). IsSome (find_row c.args.place f.page.rows)) (sym c.self.view_is) c.requires in
    let s = row_stands c.self.invariant there in
    let row = row_in_bytes bytes fields c.args.place in
    let made = c.delete_row.ensures s.left row s.right (subst (λ (b : List ℕ). CanDeleteRow b fields s.left row s.right c.args.place) (sym value) (can_be_deleted c.self.invariant there)) in
    let d = subst (λ (b : List ℕ). DeletesInBytes b c.delete_row.new.page fields s.left row s.right) value made in
    let goes = row_goes c.self.invariant there d in
    let written = with_items_is c.self.inside.bytes c.delete_row.new.page
    (d.page.spells.page.is.len ∙ sym c.self.invariant.rows.spells.page.is.len ∙ ap length (sym value) ∙ c.deref_mut.ensures.len) in
    let all = goes_from c.args.self.now c.self.view_is (subst (λ (b : List ℕ). RowGoes bytes b fields c.args.place) (sym written) goes) in
    record { rows = all.rows; gaps = all.gaps }
