use Rattle.std.proofs.Common.{◌∙◌, ℕ, ◌-◌, ◌<◌, ap, sym, subst, arith, ◌≡◌, length}
use Rattle.page_mirror.proofs.SlotLemmas.{slot_closed, slots_few}
use Rattle.page_mirror.proofs.slots.close_slot.Goals as goal

few : (n : ℕ) → n < 8149 → n < 8150
few n less = omega arith

pub returns : goal.returns
returns c = λ m r low.
    let count : c.slot_count-count.result ≡ length m.slots = c.slot_count-count.ensures m r in
    slot_closed c.args.slot r low (rw count at c.move_back.ensures) c.put_u16.ensures.kept
    (c.put_u16.ensures.value ∙ ap (λ n. n - 1) count)

pub move_back-requires-clause-count : goal.move_back-requires-clause-count
move_back-requires-clause-count c =
    let r = c.requires in
    few _ (subst (λ (n : ℕ). n < 8149) (sym (c.slot_count-count.ensures r.0 r.1)) (slots_few r.1))
