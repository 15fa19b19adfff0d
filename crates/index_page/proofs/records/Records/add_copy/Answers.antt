use Rattle.std.proofs.Common.{◌≡◌, ◌++◌, ◌∷◌, [], map, ap, ◌∙◌, List, subst, sym}
use Rattle.index_page.specs.declared.slot.Slot.{Slot}
use Rattle.index_page.specs.Store.{Content}
use Rattle.index_page.specs.Slots.{content_in, AreSlots}
use Rattle.index_page.proofs.SlotLemmas.{same_slots, push_slots, push_contents}
use Rattle.index_page.proofs.records.Records.add_copy.Goals as goal

-- one slot more
slots_after : (c : goal.After-push_reserved) → c.push_reserved.new.self.items ≡ c.self.inside.slots.items ++ c.in_ok-moved.moved ∷ []
slots_after c = c.push_reserved.ensures.items ∙ ap (λ (xs : List Slot). xs ++ c.in_ok-moved.moved ∷ []) c.reserve.ensures.items

pub invariant_of-self-in_err-moved : goal.invariant_of-self-in_err-moved
invariant_of-self-in_err-moved c = rw c.reserve.ensures.items (same_slots c.self.inside.bytes.items c.append_copy.new.bytes.items c.self.inside.slots.items c.in_err-moved.ensures.err c.self.invariant)

pub invariant_of-self-2 : goal.invariant_of-self-2
invariant_of-self-2 c = rw (slots_after c) (push_slots c.self.inside.bytes.items c.append_copy.new.bytes.items c.self.inside.slots.items c.in_ok-moved.moved _ c.self.invariant c.in_ok-moved.ensures.ok)

pub returns : goal.returns
returns c =
    let more = push_contents c.self.inside.bytes.items c.append_copy.new.bytes.items c.self.inside.slots.items c.in_ok-moved.moved _ c.self.invariant c.in_ok-moved.ensures.ok in
    ap (map (content_in c.append_copy.new.bytes.items)) (slots_after c) ∙ more ∙ ap (λ (xs : List Content). xs ++ content_in c.args.from.now c.args.slot.now ∷ []) c.self.view_is

pub invariant_of-self : goal.invariant_of-self
invariant_of-self c = subst (AreSlots c.self.inside.bytes.items) (sym c.in_err-reserve.ensures.items) c.self.invariant
