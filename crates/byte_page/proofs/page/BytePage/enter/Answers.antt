use Rattle.std.proofs.Common.{◌∙◌, sym, subst, ap, List, ℕ, length}
use Rattle.std.specs.Vec.{with_items}
use Rattle.std.proofs.lemmas.List.{with_items_is}
use Rattle.key_tuple.specs.KeyPlace.{not_below}
use Rattle.index_page.specs.Rows.{Row, placed_row}
use Rattle.index_page.specs.Page.{PageRows}
use Rattle.index_page.specs.Changes.{Inserts}
use Rattle.index_page.specs.Refusals.{takes}
use Rattle.page_rows.specs.Reading.{body_of_kind}
use Rattle.page_rows.specs.Inserting.{CanInsertRow, InsertsInBytes}
use Rattle.page_search.specs.Cuts.{CutsRows}
use Rattle.byte_page.specs.Form.{page_in_bytes, GappedPage, IsBytePage}
use Rattle.byte_page.proofs.FormLemmas.{can_be_inserted, may_be_written, row_put, RowEnters}
use Rattle.byte_page.proofs.page.BytePage.enter.Goals as goal

pub insert_row-requires : goal.insert_row-requires
insert_row-requires g c =
    let key = g.A.Fields.fields_of c.args.key.now in
    let bytes = c.self.inside.bytes.items in
    let fields = c.self.inside.fields in
    let cut = subst (λ (rows : List Row). CutsRows rows (not_below key) c.args.before) (sym (ap (λ (f : GappedPage). f.page.rows) c.self.view_is)) c.requires.before in
    let can : CanInsertRow bytes fields cut.left cut.right c.args.before c.args.kind key c.args.tail.now c.args.size =
    can_be_inserted c.self.invariant cut (may_be_written c.args.kind key c.args.tail.now c.requires.limits c.requires.short c.requires.child)
    (c.requires.fields ∙ sym (ap (λ (f : GappedPage). f.page.head.fields) c.self.view_is)) c.requires.size (ap (λ (f : GappedPage). takes f.gaps c.args.size) c.self.view_is ∙ c.requires.gap) in
    (cut.left, cut.right, subst (λ (b : List ℕ). CanInsertRow b fields cut.left cut.right c.args.before c.args.kind key c.args.tail.now c.args.size) (sym c.deref_mut.ensures.value) can)

pub invariant_of-self : goal.invariant_of-self
invariant_of-self g c =
    let key = g.A.Fields.fields_of c.args.key.now in
    let bytes = c.self.inside.bytes.items in
    let fields = c.self.inside.fields in
    let value = c.deref_mut.ensures.value in
    let cut = subst (λ (rows : List Row). CutsRows rows (not_below key) c.args.before) (sym (ap (λ (f : GappedPage). f.page.rows) c.self.view_is)) c.requires.before in
    let can : CanInsertRow bytes fields cut.left cut.right c.args.before c.args.kind key c.args.tail.now c.args.size =
    can_be_inserted c.self.invariant cut (may_be_written c.args.kind key c.args.tail.now c.requires.limits c.requires.short c.requires.child)
    (c.requires.fields ∙ sym (ap (λ (f : GappedPage). f.page.head.fields) c.self.view_is)) c.requires.size (ap (λ (f : GappedPage). takes f.gaps c.args.size) c.self.view_is ∙ c.requires.gap) in
    let row : Row = placed_row c.insert_row.result key (body_of_kind c.args.kind c.args.tail.now) in
    let made = c.insert_row.ensures cut.left cut.right (subst (λ (b : List ℕ). CanInsertRow b fields cut.left cut.right c.args.before c.args.kind key c.args.tail.now c.args.size) (sym value) can) in
    let i : InsertsInBytes bytes c.insert_row.new.page fields cut.left cut.right row = subst (λ (b : List ℕ). InsertsInBytes b c.insert_row.new.page fields cut.left cut.right row) value made in
    let e : RowEnters bytes c.insert_row.new.page fields row =
    row_put c.args.kind c.args.tail.now c.args.self.now c.self.view_is c.self.invariant cut i c.requires.fields c.requires.limits c.requires.absent c.requires.body c.requires.value c.requires.size c.requires.room in
    let written = with_items_is c.self.inside.bytes c.insert_row.new.page
    (i.page.spells.page.is.len ∙ sym c.self.invariant.rows.spells.page.is.len ∙ ap length (sym value) ∙ c.deref_mut.ensures.len) in
    subst (λ (b : List ℕ). IsBytePage b fields) (sym written) e.page

pub returns : goal.returns
returns g c =
    let key = g.A.Fields.fields_of c.args.key.now in
    let bytes = c.self.inside.bytes.items in
    let fields = c.self.inside.fields in
    let value = c.deref_mut.ensures.value in
    let cut = subst (λ (rows : List Row). CutsRows rows (not_below key) c.args.before) (sym (ap (λ (f : GappedPage). f.page.rows) c.self.view_is)) c.requires.before in
    let can : CanInsertRow bytes fields cut.left cut.right c.args.before c.args.kind key c.args.tail.now c.args.size =
    can_be_inserted c.self.invariant cut (may_be_written c.args.kind key c.args.tail.now c.requires.limits c.requires.short c.requires.child)
    (c.requires.fields ∙ sym (ap (λ (f : GappedPage). f.page.head.fields) c.self.view_is)) c.requires.size (ap (λ (f : GappedPage). takes f.gaps c.args.size) c.self.view_is ∙ c.requires.gap) in
    let row : Row = placed_row c.insert_row.result key (body_of_kind c.args.kind c.args.tail.now) in
    let made = c.insert_row.ensures cut.left cut.right (subst (λ (b : List ℕ). CanInsertRow b fields cut.left cut.right c.args.before c.args.kind key c.args.tail.now c.args.size) (sym value) can) in
    let i : InsertsInBytes bytes c.insert_row.new.page fields cut.left cut.right row = subst (λ (b : List ℕ). InsertsInBytes b c.insert_row.new.page fields cut.left cut.right row) value made in
    let e : RowEnters bytes c.insert_row.new.page fields row =
    row_put c.args.kind c.args.tail.now c.args.self.now c.self.view_is c.self.invariant cut i c.requires.fields c.requires.limits c.requires.absent c.requires.body c.requires.value c.requires.size c.requires.room in
    let written = with_items_is c.self.inside.bytes c.insert_row.new.page
    (i.page.spells.page.is.len ∙ sym c.self.invariant.rows.spells.page.is.len ∙ ap length (sym value) ∙ c.deref_mut.ensures.len) in
    subst (λ (p : PageRows). Inserts p (page_in_bytes (with_items c.self.inside.bytes c.insert_row.new.page).items fields) row) (ap (λ (f : GappedPage). f.page) c.self.view_is)
    (subst (λ (b : List ℕ). Inserts (page_in_bytes bytes fields) (page_in_bytes b fields) row) (sym written) e.inserts)
