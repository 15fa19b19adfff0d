use Rattle.std.proofs.Common.{◌≡◌, ◌<◌, ◌≤◌, ◌++◌, ℕ, List, Option, Result, IfOk, ◌∙◌, arith, ap, length, length-append}
use Rattle.key_tuple.specs.declared.TheConstants.{MAX_FIELDS, MAX_KEY_BYTES, FIELD_ROOM}
use Rattle.key_tuple.specs.Order.{FieldList, byte_count}
use Rattle.index_page.specs.declared.slot.Slot.{Slot}
use Rattle.index_page.specs.Rows.{RowBody}
use Rattle.index_page.specs.Store.{beside_by}
use Rattle.index_page.specs.Slots.{PutsFields, PutsBeside, PutsRecord}
use Rattle.list_facts.proofs.Outcomes.{when_err}
use Rattle.index_page.proofs.SlotLemmas.{puts_row, slot_made}
use Rattle.index_page.proofs.AgainLemmas.{grew_twice}
use Rattle.index_page.proofs.appending.append_row.Goals as goal

few_enough : (n : ℕ) → n ≤ MAX_FIELDS → n ≤ FIELD_ROOM
few_enough n within = omega arith

short_enough : (n : ℕ) → n ≤ MAX_KEY_BYTES → n < 65536
short_enough n within = omega arith

no_shorter : (old new added : List ℕ) (start end : ℕ) → start ≡ length old → end ≡ length new → new ≡ old ++ added → start ≤ end
no_shorter old new added start end starts ends more = omega (arith, starts, ends, ap length more, length-append old added)

-- a row came, where the slot that was made tells
row_came : {E : Type 0} (moved : Result Slot E) (old mid new : List ℕ) (start middle stop count : ℕ) (child : Option ℕ) (ends : List ℕ) (fields : FieldList) (body : RowBody) → PutsFields old mid fields ends → PutsBeside mid new child body
    → start ≡ length old → middle ≡ length mid → stop ≡ length new → count ≡ length fields → length fields ≤ MAX_FIELDS → byte_count fields ≤ MAX_KEY_BYTES
    → IfOk moved (λ slot. slot ≡ record { start = start; middle = middle; stop = stop; child = child; ends = ends; count = count }) → IfOk moved (λ slot. PutsRecord old new slot (record { key = fields; body = body }))
row_came moved old mid new start middle stop count child ends fields body put beside starts middles stops counted few short is =
    let slot : Slot = record { start = start; middle = middle; stop = stop; child = child; ends = ends; count = count } in
    slot_made moved slot (λ (x : Slot). PutsRecord old new x (record { key = fields; body = body })) (puts_row old mid new slot fields body put beside starts middles stops counted (few_enough (length fields) few) (short_enough (byte_count fields) short)) is

pub returns-clause-ok : goal.returns-clause-ok
returns-clause-ok g c =
    row_came c.moved.result c.args.bytes.now.items c.append_fields.new.bytes.items c.append_beside.new.bytes.items c.len-start.result c.len-middle.result c.len.result c.count.result c.in_ok-child.child c.in_ok-ends.ends
    (g.A.Fields.fields_of c.args.key.now) (beside_by c.args.beside) c.in_ok-ends.ensures.ok c.in_ok-child.ensures.ok (c.len-start.ensures ∙ c.args.bytes.now.ok.0) (c.len-middle.ensures ∙ c.append_fields.new.bytes.ok.0)
    (c.len.ensures ∙ c.append_beside.new.bytes.ok.0) c.count.ensures c.requires.few c.requires.short c.moved.ensures

pub returns-in_err-child-clause-err : goal.returns-in_err-child-clause-err
returns-in_err-child-clause-err g c =
    let fields = c.in_ok-ends.ensures.ok in
    when_err c.from_residual-in_err-child.result (record { more = fields.added; items = c.in_err-child.ensures.err ∙ fields.items })

pub returns-clause-err : goal.returns-clause-err
returns-clause-err g c =
    when_err c.moved.result (grew_twice _ _ c.in_ok-ends.ensures.ok.items c.in_ok-child.ensures.ok.items)

pub moved-requires-clause-key : goal.moved-requires-clause-key
moved-requires-clause-key g c =
    let put = c.in_ok-ends.ensures.ok in
    no_shorter c.args.bytes.now.items c.append_fields.new.bytes.items put.added c.len-start.result c.len-middle.result (c.len-start.ensures ∙ c.args.bytes.now.ok.0) (c.len-middle.ensures ∙ c.append_fields.new.bytes.ok.0) put.items

pub moved-requires-clause-value : goal.moved-requires-clause-value
moved-requires-clause-value g c =
    let put = c.in_ok-child.ensures.ok in
    no_shorter c.append_fields.new.bytes.items c.append_beside.new.bytes.items put.added c.len-middle.result c.len.result (c.len-middle.ensures ∙ c.append_fields.new.bytes.ok.0) (c.len.ensures ∙ c.append_beside.new.bytes.ok.0) put.items
