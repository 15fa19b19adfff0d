use Rattle.std.proofs.Common.{◌∙◌, length, sym, arith}
use Rattle.page_directory.proofs.OwnerLemmas.{slots_counted}
use Rattle.page_list.proofs.AroundLemmas.{group_around}
use Rattle.page_list.proofs.LeaveLemmas.{record_here}
use Rattle.page_list.proofs.GoneLemmas.{of_slot, other_stays, last_stays, next_tells}
use Rattle.page_list.proofs.leaving.loses_slot.Goals as goal

pub find_owner-requires : goal.find_owner-requires
find_owner-requires c =
    let r = c.requires in
    let w = group_around r.4 in
    (r.0, r.1, r.2, length w.early, r.3.here, record_here w r.4)

pub find_slot-slot-requires : goal.find_slot-slot-requires
find_slot-slot-requires c =
    let r = c.requires in
    let w = group_around r.4 in
    (r.0, r.1, r.2, length w.early, c.find_owner.ensures r.0 r.1 r.2 (length w.early) r.3.here (record_here w r.4))

pub owned-requires : goal.owned-requires
owned-requires c =
    let r = c.requires in
    let w = group_around r.4 in
    let slot = c.find_slot-slot.ensures r.0 r.1 r.2 (length w.early) (c.find_owner.ensures r.0 r.1 r.2 (length w.early) r.3.here (record_here w r.4)) in
    (r.0, r.1, r.2, r.4.page, (of_slot w c.find_slot-slot.result r.4 slot).within)

pub returns-then-owned-ne4 : goal.returns-then-owned-ne4
returns-then-owned-ne4 c = λ m gs free b can.
    let w = group_around can in
    let slot = c.find_slot-slot.ensures m gs free (length w.early) (c.find_owner.ensures m gs free (length w.early) b.here (record_here w can)) in
    let o = of_slot w c.find_slot-slot.result can slot in
    other_stays w c.owned.result o (c.owned.ensures m gs free can.page o.within) c.if-owned-ne4.true

pub overflow_add-slot : goal.overflow_add-slot
overflow_add-slot c =
    let r = c.requires in
    let w = group_around r.4 in
    let slot = c.find_slot-slot.ensures r.0 r.1 r.2 (length w.early) (c.find_owner.ensures r.0 r.1 r.2 (length w.early) r.3.here (record_here w r.4)) in
    let o = of_slot w c.find_slot-slot.result r.4 slot in
    let room = r.4.page.is.room in
    let within = o.within in
    omega (arith, slots_counted r.4.page.groups)

pub returns-then-slot-slot_count : goal.returns-then-slot-slot_count
returns-then-slot-slot_count c = λ m gs free b can.
    let w = group_around can in
    let slot = c.find_slot-slot.ensures m gs free (length w.early) (c.find_owner.ensures m gs free (length w.early) b.here (record_here w can)) in
    let o = of_slot w c.find_slot-slot.result can slot in
    last_stays w c.owned.result o (c.owned.ensures m gs free can.page o.within) c.if-owned-ne4.false (c.if-slot-slot_count.true ∙ c.slot_count.ensures m can.page.is)

pub overflow_add-slot-2 : goal.overflow_add-slot-2
overflow_add-slot-2 c =
    let r = c.requires in
    let w = group_around r.4 in
    let slot = c.find_slot-slot.ensures r.0 r.1 r.2 (length w.early) (c.find_owner.ensures r.0 r.1 r.2 (length w.early) r.3.here (record_here w r.4)) in
    let o = of_slot w c.find_slot-slot.result r.4 slot in
    let room = r.4.page.is.room in
    let within = o.within in
    omega (arith, slots_counted r.4.page.groups)

pub owned-requires-2 : goal.owned-requires-2
owned-requires-2 c =
    let r = c.requires in
    let w = group_around r.4 in
    let slot = c.find_slot-slot.ensures r.0 r.1 r.2 (length w.early) (c.find_owner.ensures r.0 r.1 r.2 (length w.early) r.3.here (record_here w r.4)) in
    let o = of_slot w c.find_slot-slot.result r.4 slot in
    let within = o.within in
    let other = c.if-slot-slot_count.false in
    (r.0, r.1, r.2, r.4.page, omega (arith, c.slot_count.ensures r.0 r.4.page.is, slots_counted r.4.page.groups))

pub returns : goal.returns
returns c = λ m gs free b can.
    let w = group_around can in
    let slot = c.find_slot-slot.ensures m gs free (length w.early) (c.find_owner.ensures m gs free (length w.early) b.here (record_here w can)) in
    let o = of_slot w c.find_slot-slot.result can slot in
    let within = o.within in
    let other = c.if-slot-slot_count.false in
    let count = c.slot_count.ensures m can.page.is in
    next_tells w c.owned.result c.owned-2.result o (c.owned.ensures m gs free can.page within) c.if-owned-ne4.false (λ e. other (e ∙ sym count))
    (c.owned-2.ensures m gs free can.page (omega (arith, slots_counted can.page.groups)))
