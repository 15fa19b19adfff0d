use Rattle.std.proofs.Common.{◌∙◌, sym, subst, ap, List, ℕ}
use Rattle.std.proofs.lemmas.List.{with_items_is}
use Rattle.compact_record.specs.Bytes.{u16_at, SameOutside}
use Rattle.index_page.specs.Page.{linked}
use Rattle.page_rows.specs.Slots.{sizes_in_bytes}
use Rattle.page_rows.specs.Reading.{rows_in_bytes}
use Rattle.page_rows.specs.Inserting.{gaps_in_bytes}
use Rattle.byte_page.specs.Form.{head_in_bytes, GappedPage, IsBytePage}
use Rattle.byte_page.proofs.FormLemmas.{links}
use Rattle.byte_page.proofs.page.BytePage.link.Goals as goal

pub invariant_of-self : goal.invariant_of-self
invariant_of-self c =
    let same = subst (λ (b : List ℕ). SameOutside b c.put_links.new.page 8 16) c.deref_mut.ensures.value c.put_links.ensures.kept in
    let l = links c.args.prev c.args.next c.self.invariant same c.put_links.ensures.prev c.put_links.ensures.next c.requires.prev c.requires.next in
    let written = with_items_is c.self.inside.bytes c.put_links.new.page (c.put_links.ensures.kept.len ∙ c.deref_mut.ensures.len) in
    subst (λ (b : List ℕ). IsBytePage b c.self.inside.fields) (sym written) l.page

pub returns-clause-head : goal.returns-clause-head
returns-clause-head c =
    let same = subst (λ (b : List ℕ). SameOutside b c.put_links.new.page 8 16) c.deref_mut.ensures.value c.put_links.ensures.kept in
    let l = links c.args.prev c.args.next c.self.invariant same c.put_links.ensures.prev c.put_links.ensures.next c.requires.prev c.requires.next in
    let written = with_items_is c.self.inside.bytes c.put_links.new.page (c.put_links.ensures.kept.len ∙ c.deref_mut.ensures.len) in
    ap (λ (b : List ℕ). head_in_bytes b c.self.inside.fields) written ∙ l.head ∙ ap (λ (f : GappedPage). linked f.page.head c.args.prev c.args.next) c.self.view_is

pub returns-clause-rows : goal.returns-clause-rows
returns-clause-rows c =
    let same = subst (λ (b : List ℕ). SameOutside b c.put_links.new.page 8 16) c.deref_mut.ensures.value c.put_links.ensures.kept in
    let l = links c.args.prev c.args.next c.self.invariant same c.put_links.ensures.prev c.put_links.ensures.next c.requires.prev c.requires.next in
    let written = with_items_is c.self.inside.bytes c.put_links.new.page (c.put_links.ensures.kept.len ∙ c.deref_mut.ensures.len) in
    ap (λ (b : List ℕ). rows_in_bytes b c.self.inside.fields) written ∙ l.rows ∙ ap (λ (f : GappedPage). f.page.rows) c.self.view_is

pub returns-clause-gaps : goal.returns-clause-gaps
returns-clause-gaps c =
    let same = subst (λ (b : List ℕ). SameOutside b c.put_links.new.page 8 16) c.deref_mut.ensures.value c.put_links.ensures.kept in
    let l = links c.args.prev c.args.next c.self.invariant same c.put_links.ensures.prev c.put_links.ensures.next c.requires.prev c.requires.next in
    let written = with_items_is c.self.inside.bytes c.put_links.new.page (c.put_links.ensures.kept.len ∙ c.deref_mut.ensures.len) in
    ap (λ (b : List ℕ). gaps_in_bytes b c.self.inside.fields) written ∙ l.gaps ∙ ap (λ (f : GappedPage). f.gaps) c.self.view_is

pub returns-clause-garbage : goal.returns-clause-garbage
returns-clause-garbage c =
    let same = subst (λ (b : List ℕ). SameOutside b c.put_links.new.page 8 16) c.deref_mut.ensures.value c.put_links.ensures.kept in
    let l = links c.args.prev c.args.next c.self.invariant same c.put_links.ensures.prev c.put_links.ensures.next c.requires.prev c.requires.next in
    let written = with_items_is c.self.inside.bytes c.put_links.new.page (c.put_links.ensures.kept.len ∙ c.deref_mut.ensures.len) in
    ap (λ (b : List ℕ). u16_at b 46) written ∙ l.garbage ∙ ap (λ (f : GappedPage). f.garbage) c.self.view_is

pub returns-clause-slots : goal.returns-clause-slots
returns-clause-slots c =
    let same = subst (λ (b : List ℕ). SameOutside b c.put_links.new.page 8 16) c.deref_mut.ensures.value c.put_links.ensures.kept in
    let l = links c.args.prev c.args.next c.self.invariant same c.put_links.ensures.prev c.put_links.ensures.next c.requires.prev c.requires.next in
    let written = with_items_is c.self.inside.bytes c.put_links.new.page (c.put_links.ensures.kept.len ∙ c.deref_mut.ensures.len) in
    ap sizes_in_bytes written ∙ l.slots ∙ ap (λ (f : GappedPage). f.slots) c.self.view_is
