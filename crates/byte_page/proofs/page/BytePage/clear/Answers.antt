use Rattle.std.proofs.Common.{◌∙◌, refl, sym, subst, ap, List, ℕ, length}
use Rattle.std.proofs.lemmas.List.{with_items_is}
use Rattle.compact_record.specs.Bytes.{u16_at}
use Rattle.page_mirror.specs.Mirror.{Mirrors}
use Rattle.page_mirror.specs.Empty.{empty_mirror}
use Rattle.page_rows.specs.Reading.{rows_in_bytes}
use Rattle.byte_page.specs.Form.{head_in_bytes, GappedPage, IsBytePage}
use Rattle.byte_page.proofs.FrontLemmas.{head_same}
use Rattle.byte_page.proofs.FormLemmas.{empty_rows, empty_front, empty_page_in_order}
use Rattle.byte_page.proofs.page.BytePage.clear.Goals as goal

pub write_empty-requires : goal.write_empty-requires
write_empty-requires c = ap length c.deref_mut.ensures.value ∙ c.self.invariant.rows.spells.page.is.len

pub invariant_of-self : goal.invariant_of-self
invariant_of-self c =
    let old = c.self.inside.bytes.items in
    let fields = c.self.inside.fields in
    let order = c.self.invariant.order in
    let empty = subst (λ (b : List ℕ). Mirrors c.write_empty.new.page (empty_mirror b)) c.deref_mut.ensures.value c.write_empty.ensures in
    let written = with_items_is c.self.inside.bytes c.write_empty.new.page (c.write_empty.ensures.len ∙ sym c.self.invariant.rows.spells.page.is.len ∙ ap length (sym c.deref_mut.ensures.value) ∙ c.deref_mut.ensures.len) in
    subst (λ (b : List ℕ). IsBytePage b fields) (sym written) (empty_page_in_order c.write_empty.new.page old (head_in_bytes old fields) empty refl order.prev order.next)

pub returns-clause-rows : goal.returns-clause-rows
returns-clause-rows c =
    let fields = c.self.inside.fields in
    let empty = subst (λ (b : List ℕ). Mirrors c.write_empty.new.page (empty_mirror b)) c.deref_mut.ensures.value c.write_empty.ensures in
    let written = with_items_is c.self.inside.bytes c.write_empty.new.page (c.write_empty.ensures.len ∙ sym c.self.invariant.rows.spells.page.is.len ∙ ap length (sym c.deref_mut.ensures.value) ∙ c.deref_mut.ensures.len) in
    ap (λ (b : List ℕ). rows_in_bytes b fields) written ∙ empty_rows c.write_empty.new.page c.self.inside.bytes.items fields empty

pub returns-clause-head : goal.returns-clause-head
returns-clause-head c =
    let fields = c.self.inside.fields in
    let empty = subst (λ (b : List ℕ). Mirrors c.write_empty.new.page (empty_mirror b)) c.deref_mut.ensures.value c.write_empty.ensures in
    let written = with_items_is c.self.inside.bytes c.write_empty.new.page (c.write_empty.ensures.len ∙ sym c.self.invariant.rows.spells.page.is.len ∙ ap length (sym c.deref_mut.ensures.value) ∙ c.deref_mut.ensures.len) in
    ap (λ (b : List ℕ). head_in_bytes b fields) written ∙ head_same fields (empty_front c.write_empty.new.page c.self.inside.bytes.items empty) ∙ ap (λ (f : GappedPage). f.page.head) c.self.view_is

pub returns-clause-garbage : goal.returns-clause-garbage
returns-clause-garbage c =
    let written = with_items_is c.self.inside.bytes c.write_empty.new.page (c.write_empty.ensures.len ∙ sym c.self.invariant.rows.spells.page.is.len ∙ ap length (sym c.deref_mut.ensures.value) ∙ c.deref_mut.ensures.len) in
    ap (λ (b : List ℕ). u16_at b 46) written ∙ c.write_empty.ensures.head.garbage
