use Rattle.std.proofs.Common.{◌∙◌, sym, subst, ap, List, ℕ}
use Rattle.std.specs.Vec.{with_items}
use Rattle.std.proofs.lemmas.List.{with_items_is}
use Rattle.compact_record.specs.Bytes.{u16_at}
use Rattle.page_rows.specs.Reading.{rows_in_bytes}
use Rattle.byte_page.specs.Form.{head_in_bytes, IsBytePage}
use Rattle.byte_page.proofs.FrontLemmas.{head_same}
use Rattle.byte_page.proofs.FormLemmas.{empty_rows, empty_front, empty_page_in_order}
use Rattle.byte_page.proofs.page.BytePage.empty.Goals as goal

pub invariant_of-result : goal.invariant_of-result
invariant_of-result c =
    let v = c.in_ok-bytes.bytes in
    let first = with_items_is v c.write_front.new.page (c.write_front.ensures.len ∙ sym c.in_ok-bytes.ensures.len) in
    let second = with_items_is (with_items v c.write_front.new.page) c.write_empty.new.page (c.write_empty.ensures.len ∙ sym c.in_ok-bytes.ensures.len) in
    let old = c.deref_mut-2.result.now in
    let head = ap (λ (b : List ℕ). head_in_bytes b c.args.head.fields) (c.deref_mut-2.ensures.value ∙ first) ∙ c.write_front.ensures.head in
    subst (λ (b : List ℕ). IsBytePage b c.args.head.fields) (sym second) (empty_page_in_order c.write_empty.new.page old c.args.head c.write_empty.ensures head c.requires.prev c.requires.next)

pub returns-clause-head : goal.returns-clause-head
returns-clause-head c =
    let v = c.in_ok-bytes.bytes in
    let first = with_items_is v c.write_front.new.page (c.write_front.ensures.len ∙ sym c.in_ok-bytes.ensures.len) in
    let second = with_items_is (with_items v c.write_front.new.page) c.write_empty.new.page (c.write_empty.ensures.len ∙ sym c.in_ok-bytes.ensures.len) in
    let old = c.deref_mut-2.result.now in
    ap (λ (b : List ℕ). head_in_bytes b c.args.head.fields) second
    ∙ head_same c.args.head.fields (empty_front c.write_empty.new.page old c.write_empty.ensures)
    ∙ ap (λ (b : List ℕ). head_in_bytes b c.args.head.fields) (c.deref_mut-2.ensures.value ∙ first) ∙ c.write_front.ensures.head

pub returns-clause-rows : goal.returns-clause-rows
returns-clause-rows c =
    let v = c.in_ok-bytes.bytes in
    let second = with_items_is (with_items v c.write_front.new.page) c.write_empty.new.page (c.write_empty.ensures.len ∙ sym c.in_ok-bytes.ensures.len) in
    ap (λ (b : List ℕ). rows_in_bytes b c.args.head.fields) second ∙ empty_rows c.write_empty.new.page c.deref_mut-2.result.now c.args.head.fields c.write_empty.ensures

pub returns-clause-garbage : goal.returns-clause-garbage
returns-clause-garbage c =
    let v = c.in_ok-bytes.bytes in
    let second = with_items_is (with_items v c.write_front.new.page) c.write_empty.new.page (c.write_empty.ensures.len ∙ sym c.in_ok-bytes.ensures.len) in
    ap (λ (b : List ℕ). u16_at b 46) second ∙ c.write_empty.ensures.head.garbage
