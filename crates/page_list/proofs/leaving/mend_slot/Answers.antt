use Rattle.std.proofs.Common.{◌∙◌, ◌+◌, ◌<◌, length, sym, arith}
use Rattle.page_directory.proofs.OwnerLemmas.{slots_counted}
use Rattle.page_list.proofs.MendLemmas.{can_balance, mended_three, mended_other, slot_of, slot_fits}
use Rattle.page_list.proofs.leaving.mend_slot.Goals as goal
use Rattle.page_list.proofs.leaving.mend_slot.Goals.{else-slot-slot_count-via-then-slot-slot_count+else-count-eq3, else-slot-slot_count-via-else-slot-slot_count}

pub owned-count-requires : goal.owned-count-requires
owned-count-requires c = let r = c.requires in (r.0, r.1, r.2, r.3.page, slot_of r.3)

pub balance-requires : goal.balance-requires
balance-requires c =
    let r = c.requires in
    let size = c.owned-count.ensures r.0 r.1 r.2 r.3.page (slot_of r.3) in
    let slots = slots_counted r.3.page.groups in
    let test = c.if-slot-slot_count.true in
    (r.0, r.1, r.2, can_balance r.3 (omega (arith, c.slot_count.ensures r.0 r.3.page.is)) (sym size ∙ c.if-count-eq3.true))

pub returns-then-count-eq3 : goal.returns-then-count-eq3
returns-then-count-eq3 c = λ m gs free h.
    let three = sym (c.owned-count.ensures m gs free h.page (slot_of h)) ∙ c.if-count-eq3.true in
    let slots = slots_counted h.page.groups in
    let test = c.if-slot-slot_count.true in
    let inner : c.args.slot + 1 < length gs = omega (arith, c.slot_count.ensures m h.page.is) in
    mended_three c.args.slot inner three (c.balance.ensures m gs free (can_balance h inner three))

pub returns-else-slot-slot_count : goal.returns-else-slot-slot_count
returns-else-slot-slot_count c = λ m gs free h.
    let slots = slots_counted h.page.groups in
    let size = c.owned-count.ensures m gs free h.page (slot_of h) in
    let count = c.slot_count.ensures m h.page.is in
    mended_other h (λ inner three. elim c.else-slot-slot_count.branch [
      | else-slot-slot_count-via-then-slot-slot_count+else-count-eq3 w ↦ w.if-count-eq3.false (size ∙ three)
      | else-slot-slot_count-via-else-slot-slot_count w ↦ let test = w.if-slot-slot_count.false in omega arith
    ])

pub overflow_add-slot : goal.overflow_add-slot
overflow_add-slot c = record { fits = slot_fits c.requires.3 }
