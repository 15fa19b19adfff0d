use Rattle.std.proofs.Common.{◌≡◌, ◌∙◌, sym, subst, ap, length, List, ℕ, IsSome}
use Rattle.std.proofs.lemmas.List.{with_items_is}
use Rattle.index_page.specs.Rows.{Bytes, find_row}
use Rattle.index_page.specs.Page.{HasShortValue}
use Rattle.page_rows.specs.Reading.{row_in_bytes}
use Rattle.page_rows.specs.Setting.{CanSetValue, SetsInBytes}
use Rattle.byte_page.specs.Form.{head_in_bytes, GappedPage, IsBytePage}
use Rattle.byte_page.proofs.DeleteLemmas.{row_stands}
use Rattle.byte_page.proofs.SetLemmas.{AsLong, can_be_set, RowSet, row_set, set_from}
use Rattle.byte_page.proofs.page.BytePage.set_in_place.Goals as goal

pub set_value-requires : goal.set_value-requires
set_value-requires c =
    let bytes = c.self.inside.bytes.items in
    let fields = c.self.inside.fields in
    let there = subst (λ (f : GappedPage). IsSome (find_row c.args.place f.page.rows)) (sym c.self.view_is) c.requires.there in
    let level : (head_in_bytes bytes fields).level ≡ 0 = ap (λ (f : GappedPage). f.page.head.level) c.self.view_is ∙ c.requires.level in
    let long = subst (λ (f : GappedPage). AsLong f.page.rows c.args.place c.args.value.now) (sym c.self.view_is) c.requires.long in
    let s = row_stands c.self.invariant there in
    let row = row_in_bytes bytes fields c.args.place in
    let can = can_be_set c.self.invariant there level long in
    let lent = subst (λ (v : List ℕ). CanSetValue bytes fields s.left row s.right c.args.place v) (sym c.as_bytes.ensures.bytes) can in
    (s.left, row, s.right, subst (λ (b : List ℕ). CanSetValue b fields s.left row s.right c.args.place c.as_bytes.result.now) (sym c.deref_mut.ensures.value) lent)

pub invariant_of-self : goal.invariant_of-self
invariant_of-self c =
    let bytes = c.self.inside.bytes.items in
    let fields = c.self.inside.fields in
    let value = c.deref_mut.ensures.value in
    let there = subst (λ (f : GappedPage). IsSome (find_row c.args.place f.page.rows)) (sym c.self.view_is) c.requires.there in
    let level : (head_in_bytes bytes fields).level ≡ 0 = ap (λ (f : GappedPage). f.page.head.level) c.self.view_is ∙ c.requires.level in
    let long = subst (λ (f : GappedPage). AsLong f.page.rows c.args.place c.args.value.now) (sym c.self.view_is) c.requires.long in
    let s = row_stands c.self.invariant there in
    let row = row_in_bytes bytes fields c.args.place in
    let can = can_be_set c.self.invariant there level long in
    let lent = subst (λ (v : List ℕ). CanSetValue bytes fields s.left row s.right c.args.place v) (sym c.as_bytes.ensures.bytes) can in
    let made = c.set_value.ensures s.left row s.right (subst (λ (b : List ℕ). CanSetValue b fields s.left row s.right c.args.place c.as_bytes.result.now) (sym value) lent) in
    let d = subst (λ (b : List ℕ). SetsInBytes b c.set_value.new.page fields s.left row s.right c.as_bytes.result.now) value made in
    let put = row_set c.self.invariant there lent level (subst (λ (v : List ℕ). HasShortValue (Bytes v)) (sym c.as_bytes.ensures.bytes) c.as_bytes.ensures.short) d in
    let written = with_items_is c.self.inside.bytes c.set_value.new.page
    (d.page.spells.page.is.len ∙ sym c.self.invariant.rows.spells.page.is.len ∙ ap length (sym value) ∙ c.deref_mut.ensures.len) in
    subst (λ (b : List ℕ). IsBytePage b fields) (sym written) put.page

pub returns : goal.returns
returns c =
    let bytes = c.self.inside.bytes.items in
    let fields = c.self.inside.fields in
    let value = c.deref_mut.ensures.value in
    let there = subst (λ (f : GappedPage). IsSome (find_row c.args.place f.page.rows)) (sym c.self.view_is) c.requires.there in
    let level : (head_in_bytes bytes fields).level ≡ 0 = ap (λ (f : GappedPage). f.page.head.level) c.self.view_is ∙ c.requires.level in
    let long = subst (λ (f : GappedPage). AsLong f.page.rows c.args.place c.args.value.now) (sym c.self.view_is) c.requires.long in
    let s = row_stands c.self.invariant there in
    let row = row_in_bytes bytes fields c.args.place in
    let can = can_be_set c.self.invariant there level long in
    let lent = subst (λ (v : List ℕ). CanSetValue bytes fields s.left row s.right c.args.place v) (sym c.as_bytes.ensures.bytes) can in
    let made = c.set_value.ensures s.left row s.right (subst (λ (b : List ℕ). CanSetValue b fields s.left row s.right c.args.place c.as_bytes.result.now) (sym value) lent) in
    let d = subst (λ (b : List ℕ). SetsInBytes b c.set_value.new.page fields s.left row s.right c.as_bytes.result.now) value made in
    let put = row_set c.self.invariant there lent level (subst (λ (v : List ℕ). HasShortValue (Bytes v)) (sym c.as_bytes.ensures.bytes) c.as_bytes.ensures.short) d in
    let written = with_items_is c.self.inside.bytes c.set_value.new.page
    (d.page.spells.page.is.len ∙ sym c.self.invariant.rows.spells.page.is.len ∙ ap length (sym value) ∙ c.deref_mut.ensures.len) in
    let all = set_from c.args.self.now c.self.view_is (subst (λ (b : List ℕ). RowSet bytes b fields c.args.place c.args.value.now) (sym written)
    (subst (λ (v : List ℕ). RowSet bytes c.set_value.new.page fields c.args.place v) c.as_bytes.ensures.bytes put)) in
    record { rows = all.rows; gaps = all.gaps; slots = all.slots }
