use Rattle.std.proofs.Common.{map, take, ap, ◌∙◌, arith, ℕ, ◌≡◌, ◌<◌, List, length, get_or, subst}
use Rattle.std.proofs.Math.Seq.{take-length}
use Rattle.index_page.specs.Slots.{content_in, IsSlotIn}
use Rattle.index_page.proofs.SlotLemmas.{copied_more}
use Rattle.std.specs.List.{AllByRecursion}
use Rattle.index_page.specs.declared.slot.Slot.{Slot}
use Rattle.list_facts.proofs.Each.{each_get}
use Rattle.index_page.proofs.StoreLemmas.{get_elem}
use Rattle.index_page.proofs.records.Records.copy.Goals as goal

-- the slot that is copied next
copied_slot : (bytes lent : List ℕ) (all slots : List Slot) (number : ℕ) (d : Slot) → lent ≡ bytes → slots ≡ all → number < length slots → AllByRecursion (IsSlotIn bytes) all → IsSlotIn lent (get_or slots number d)
copied_slot bytes lent all slots number d same items below each =
    rw (same, items) (each_get (IsSlotIn bytes) all number (get_or all number d) each (get_elem all number d (subst (λ (xs : List Slot). number < length xs) items below)))

pub loop-slot-preserved : goal.loop-slot-preserved
loop-slot-preserved c = copied_more c.self.inside.bytes.items c.deref.result.now c.deref-slot-items.result.now c.loop-slot.slot-index _ c.loop-slot.copy c.add_copy.new.self c.loop-slot-test.true c.loop-slot.invariant c.deref.ensures.value c.in_ok-add_copy.ensures

pub returns : goal.returns
returns c =
    let items = c.deref-slot-items.result.now in
    let all = ap (λ (n : ℕ). take n items) (omega (arith, c.loop-slot-test.false, c.loop-slot.auto.slot-index-end)) ∙ take-length items in
    c.loop-slot.invariant ∙ ap (map (content_in c.self.inside.bytes.items)) (all ∙ c.deref-slot-items.ensures.value) ∙ c.self.view_is

pub add_copy-requires : goal.add_copy-requires
add_copy-requires c =
    copied_slot c.self.inside.bytes.items c.deref.result.now c.self.inside.slots.items c.deref-slot-items.result.now c.loop-slot.slot-index _ c.deref.ensures.value c.deref-slot-items.ensures.value c.loop-slot-test.true c.self.invariant.each

pub invariant_of-copy : goal.invariant_of-copy
invariant_of-copy c =
    rw c.in_ok-with_capacity-2.ensures.items (record { each = tt; apart = tt })

pub bounds-slot-items-slot-index : goal.bounds-slot-items-slot-index
bounds-slot-items-slot-index c = c.loop-slot-test.true
