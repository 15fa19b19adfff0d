use Rattle.std.proofs.Common.{arith, refl, ◌+◌, slice_index}
use Rattle.page_mirror.specs.Steps.{owning}
use Rattle.page_mirror.proofs.HeadLemmas.{still}
use Rattle.page_directory.proofs.BalanceLemmas.{joins, next_in_slots, here_in_slots, next_fits}
use Rattle.page_directory.proofs.balancing.join_next.Goals as goal

pub own-requires-clause-there : goal.own-requires-clause-there
own-requires-clause-there c =
    let m = c.requires.there.0 in
    let r = c.requires.there.3 in
    let within = next_in_slots r in (m, slice_index m.slots c.args.slot, c.slot_owner-owner.ensures m r.page.is (omega arith))

pub own-requires-2-clause-there : goal.own-requires-2-clause-there
own-requires-2-clause-there c =
    let m = c.requires.there.0 in
    let r = c.requires.there.3 in
    let within = next_in_slots r in
    let o = slice_index m.slots c.args.slot in
    let owner = c.slot_owner-owner.ensures m r.page.is (omega arith) in
    let next = c.slot_owner-next.ensures m r.page.is (omega arith) in (
      owning m o 0,
      slice_index m.slots (c.args.slot + 1),
      still {n = owning m o 0} next (c.own.ensures m o owner) refl refl,
    )

pub close_slot-requires : goal.close_slot-requires
close_slot-requires c =
    let m = c.requires.there.0 in
    let r = c.requires.there.3 in
    let within = next_in_slots r in
    let o = slice_index m.slots c.args.slot in
    let p = slice_index m.slots (c.args.slot + 1) in
    let owner = c.slot_owner-owner.ensures m r.page.is (omega arith) in
    let next = c.slot_owner-next.ensures m r.page.is (omega arith) in
    let first = c.own.ensures m o owner in (
      owning (owning m o 0) p (c.args.count + 3),
      c.own-2.ensures (owning m o 0) p (still {n = owning m o 0} next first refl refl),
      omega arith,
    )

pub returns : goal.returns
returns c = λ m gs free r size.
    let within = next_in_slots r in
    let o = slice_index m.slots c.args.slot in
    let p = slice_index m.slots (c.args.slot + 1) in
    let owner = c.slot_owner-owner.ensures m r.page.is (omega arith) in
    let next = c.slot_owner-next.ensures m r.page.is (omega arith) in
    let first = c.own.ensures m o owner in
    let second = c.own-2.ensures (owning m o 0) p (still {n = owning m o 0} next first refl refl) in
    let third = c.close_slot.ensures (owning (owning m o 0) p (c.args.count + 3)) second (omega arith) in
    joins r size c.requires.few o p refl refl third

pub overflow_add-slot : goal.overflow_add-slot
overflow_add-slot c = record { fits = next_fits c.requires.there.3 }

pub slot_owner-next-requires : goal.slot_owner-next-requires
slot_owner-next-requires c =
    let r = c.requires.there in
    (r.0, r.3.page.is, next_in_slots r.3)

pub slot_owner-owner-requires : goal.slot_owner-owner-requires
slot_owner-owner-requires c =
    let r = c.requires.there in
    (r.0, r.3.page.is, here_in_slots r.3)
