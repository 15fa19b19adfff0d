use Rattle.std.proofs.Common.{◌++◌, ◌∷◌, [], ap, ◌∙◌, List, ◌≡◌, ℕ, map, subst, sym}
use Rattle.index_page.specs.declared.slot.Slot.{Slot}
use Rattle.index_page.proofs.SlotLemmas.{blank_pushed}
use Rattle.std.proofs.lemmas.List.{map-append}
use Rattle.index_page.specs.Store.{Content}
use Rattle.index_page.specs.Slots.{content_in, no_content, AreSlots}
use Rattle.index_page.proofs.records.Records.add_blank.Goals as goal

-- a record of nothing more
pushed : (bytes : List ℕ) (slots : List Slot) (slot : Slot) (now : List Content) → map (content_in bytes) slots ≡ now → content_in bytes slot ≡ no_content → map (content_in bytes) (slots ++ slot ∷ []) ≡ now ++ no_content ∷ []
pushed bytes slots slot now view says = map-append (content_in bytes) slots (slot ∷ []) ∙ cc (view, says)

pub invariant_of-self-2 : goal.invariant_of-self-2
invariant_of-self-2 c =
    let after = c.push_reserved.ensures.items ∙ ap (λ (xs : List Slot). xs ++ c.blank.result ∷ []) c.in_ok-reserve.ensures.items in
    rw after (blank_pushed c.self.inside.bytes.items c.self.inside.slots.items c.blank.result c.self.invariant (c.blank.ensures.is c.self.inside.bytes.items) c.blank.ensures.nowhere)

pub returns-clause-ok : goal.returns-clause-ok
returns-clause-ok c =
    let after = c.push_reserved.ensures.items ∙ ap (λ (xs : List Slot). xs ++ c.blank.result ∷ []) c.in_ok-reserve.ensures.items in
    rw after (pushed c.self.inside.bytes.items c.self.inside.slots.items c.blank.result c.args.self.now c.self.view_is (c.blank.ensures.says c.self.inside.bytes.items))

pub invariant_of-self : goal.invariant_of-self
invariant_of-self c = subst (AreSlots c.self.inside.bytes.items) (sym c.in_err-reserve.ensures.items) c.self.invariant
