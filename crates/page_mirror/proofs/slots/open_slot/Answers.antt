use Rattle.std.proofs.Common.{◌∙◌, ℕ, ◌+◌, ◌<◌, ap, sym, subst, ◌≡◌, length}
use Rattle.page_mirror.proofs.SlotLemmas.{slot_opened, slots_few}
use Rattle.page_mirror.proofs.slots.open_slot.Goals as goal

pub returns : goal.returns
returns c = λ m h low room r.
    let count : c.slot_count-count.result ≡ length m.slots = c.slot_count-count.ensures m r.is in
    slot_opened c.args.slot h r.is low r.within room (rw (count, ← r.placed) at c.move_on.ensures) c.put_u16.ensures.kept
    (c.put_u16.ensures.value ∙ ap (λ n. n + 1) count)

pub move_on-requires-clause-count : goal.move_on-requires-clause-count
move_on-requires-clause-count c =
    let r = c.requires in
    subst (λ (n : ℕ). n < 8149) (sym (c.slot_count-count.ensures r.0 r.1)) (slots_few r.1)
