use Rattle.std.proofs.Common.{◌≡◌, Some, List, length, ap, ap₂, sym, ◌∙◌, arith, ◌<◌, ◌≤◌, ◌-◌, ℕ, map, take, drop, get_or, length-take, length-drop}
use Rattle.std.proofs.lemmas.List.{length-map, length-take-le}
use Rattle.std.specs.List.{slice_get}
use Rattle.key_tuple.specs.Order.{FieldList}
use Rattle.key_tuple.specs.Parts.{parts}
use Rattle.index_page.specs.Rows.{RowBody}
use Rattle.index_page.specs.Store.{Content, body_from}
use Rattle.index_page.specs.Slots.{content_in, IsSlotIn, AreSlots}
use Rattle.list_facts.proofs.Elements.{map_get}
use Rattle.index_page.proofs.SlotLemmas.{got}
use Rattle.index_page.specs.declared.slot.Slot.{Slot}
use Rattle.list_facts.proofs.Each.{each_get}
use Rattle.index_page.proofs.records.Records.get.Goals as goal

-- the slot with a number lies in the bytes
lies : (bytes : List ℕ) (slots : List Slot) (contents : List Content) (number : ℕ) (slot : Slot) → AreSlots bytes slots → map (content_in bytes) slots ≡ contents → number < length contents → slot ≡ get_or slots number slot → IsSlotIn bytes slot
lies bytes slots contents number slot are view below read =
    each_get (IsSlotIn bytes) slots number slot are.each (got slots number slot (omega (arith, below, ap length view, length-map slots (content_in bytes))) read)

-- its key is as long as it tells
key_long : (bytes : List ℕ) (slot : Slot) → IsSlotIn bytes slot → length (take (slot.middle - slot.start) (drop slot.start bytes)) ≡ slot.middle - slot.start
key_long bytes slot is = length-take (slot.middle - slot.start) (drop slot.start bytes) ∙ omega (arith, is.key, is.value, is.within, length-drop slot.start bytes)

abbrev content_of : FieldList → RowBody → Content
content_of key body = record { key = key; body = body }

-- what was read of a slot's key and value is what the slot says
content_read : (bytes key_bytes value_bytes : List ℕ) (slot : Slot) (count : ℕ) (key : FieldList) (made : Content) → key_bytes ≡ bytes → value_bytes ≡ bytes → count ≡ slot.count
    → key ≡ parts (take (slot.middle - slot.start) (drop slot.start key_bytes)) 0 (take count slot.ends)
    → made ≡ content_of key (body_from (take (slot.stop - slot.middle) (drop slot.middle value_bytes)) slot.child) → content_in bytes slot ≡ made
content_read bytes key_bytes value_bytes slot count key made key_from value_from counted key_is made_is =
    let keys = key_is ∙ ap₂ (λ (xs : List ℕ) (n : ℕ). parts (take (slot.middle - slot.start) (drop slot.start xs)) 0 (take n slot.ends)) key_from counted in
    let bodies = ap (λ (xs : List ℕ). body_from (take (slot.stop - slot.middle) (drop slot.middle xs)) slot.child) value_from in
    sym (made_is ∙ ap₂ content_of keys bodies)

-- and it stands at the slot's number
content_at : (bytes : List ℕ) (slots : List Slot) (contents : List Content) (number : ℕ) (slot : Slot) (made : Content) → map (content_in bytes) slots ≡ contents → number < length contents
    → slot ≡ get_or slots number slot → content_in bytes slot ≡ made → slice_get contents number ≡ Some made
content_at bytes slots contents number slot made view below read is =
    let there = got slots number slot (omega (arith, below, ap length view, length-map slots (content_in bytes))) read in
    ap (λ (xs : List Content). slice_get xs number) (sym view) ∙ map_get (content_in bytes) slots number slot there ∙ ap Some is

pub returns : goal.returns
returns c =
    let bytes = c.self.inside.bytes.items in
    content_at bytes c.self.inside.slots.items c.args.self.now c.args.number c.index-slot.result.now c.new.result c.self.view_is c.requires c.index-slot.ensures
    (content_read bytes c.deref.result.now c.deref-2.result.now c.index-slot.result.now c.from.result c.new-fields.result c.new.result c.deref.ensures.value c.deref-2.ensures.value c.from.ensures c.new-fields.ensures c.new.ensures)

pub new-fields-requires-clause-short : goal.new-fields-requires-clause-short
new-fields-requires-clause-short c =
    let is = lies c.self.inside.bytes.items c.self.inside.slots.items c.args.self.now c.args.number c.index-slot.result.now c.self.invariant c.self.view_is c.requires c.index-slot.ensures in
    rw (c.deref.ensures.value, key_long c.self.inside.bytes.items c.index-slot.result.now is) is.short

pub new-fields-requires-clause-few : goal.new-fields-requires-clause-few
new-fields-requires-clause-few c =
    let is = lies c.self.inside.bytes.items c.self.inside.slots.items c.args.self.now c.args.number c.index-slot.result.now c.self.invariant c.self.view_is c.requires c.index-slot.ensures in
    omega (arith, length-take-le c.from.result c.index-slot.result.now.ends, c.from.ensures, is.few)

pub new-fields-requires-clause-rise : goal.new-fields-requires-clause-rise
new-fields-requires-clause-rise c =
    let is = lies c.self.inside.bytes.items c.self.inside.slots.items c.args.self.now c.args.number c.index-slot.result.now c.self.invariant c.self.view_is c.requires c.index-slot.ensures in
    rw (c.from.ensures, c.deref.ensures.value, key_long c.self.inside.bytes.items c.index-slot.result.now is) is.rise

pub slice_bounds-value-count : goal.slice_bounds-value-count
slice_bounds-value-count c =
    (lies c.self.inside.bytes.items c.self.inside.slots.items c.args.self.now c.args.number c.index-slot.result.now c.self.invariant c.self.view_is c.requires c.index-slot.ensures).value

pub slice_bounds-key-count : goal.slice_bounds-key-count
slice_bounds-key-count c =
    (lies c.self.inside.bytes.items c.self.inside.slots.items c.args.self.now c.args.number c.index-slot.result.now c.self.invariant c.self.view_is c.requires c.index-slot.ensures).key

pub shared_ref_as_front-new : goal.shared_ref_as_front-new
shared_ref_as_front-new c =
    let is = lies c.self.inside.bytes.items c.self.inside.slots.items c.args.self.now c.args.number c.index-slot.result.now c.self.invariant c.self.view_is c.requires c.index-slot.ensures in
    omega (arith, is.few, c.from.ensures)

pub slice_bounds-value-start : goal.slice_bounds-value-start
slice_bounds-value-start c = (lies c.self.inside.bytes.items c.self.inside.slots.items c.args.self.now c.args.number c.index-slot.result.now c.self.invariant c.self.view_is c.requires c.index-slot.ensures).value

pub slice_bounds-key-start : goal.slice_bounds-key-start
slice_bounds-key-start c = (lies c.self.inside.bytes.items c.self.inside.slots.items c.args.self.now c.args.number c.index-slot.result.now c.self.invariant c.self.view_is c.requires c.index-slot.ensures).key

pub slice_bounds-value-end : goal.slice_bounds-value-end
slice_bounds-value-end c =
    let is = lies c.self.inside.bytes.items c.self.inside.slots.items c.args.self.now c.args.number c.index-slot.result.now c.self.invariant c.self.view_is c.requires c.index-slot.ensures in
    let fits : c.index-slot.result.now.stop ≤ length c.deref-2.result.now = omega (arith, is.within, ap length c.deref-2.ensures.value) in
    fits

pub slice_bounds-key-end : goal.slice_bounds-key-end
slice_bounds-key-end c =
    let is = lies c.self.inside.bytes.items c.self.inside.slots.items c.args.self.now c.args.number c.index-slot.result.now c.self.invariant c.self.view_is c.requires c.index-slot.ensures in
    let fits : c.index-slot.result.now.middle ≤ length c.deref.result.now = omega (arith, is.value, is.within, ap length c.deref.ensures.value) in
    fits
