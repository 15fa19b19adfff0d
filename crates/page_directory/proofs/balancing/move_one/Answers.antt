use Rattle.std.proofs.Common.{arith, refl, ◌-◌, ◌+◌, slice_index}
use Rattle.page_mirror.specs.Steps.{owning}
use Rattle.page_mirror.proofs.HeadLemmas.{still}
use Rattle.page_directory.proofs.BalanceLemmas.{next_in_slots, here_in_slots, next_fits, next_most}
use Rattle.page_directory.proofs.MoveLemmas.{moves}
use Rattle.page_directory.proofs.balancing.move_one.Goals as goal

pub next_of-first-requires : goal.next_of-first-requires
next_of-first-requires c =
    let m = c.requires.there.0 in
    let r = c.requires.there.3 in
    let within = next_in_slots r in (m, slice_index m.slots c.args.slot, c.slot_owner-owner.ensures m r.page.is (omega arith))

pub own-requires-clause-there : goal.own-requires-clause-there
own-requires-clause-there c =
    let m = c.requires.there.0 in
    let r = c.requires.there.3 in
    let within = next_in_slots r in (m, slice_index m.slots c.args.slot, c.slot_owner-owner.ensures m r.page.is (omega arith))

pub own-requires-2-clause-there : goal.own-requires-2-clause-there
own-requires-2-clause-there c =
    let m = c.requires.there.0 in
    let r = c.requires.there.3 in
    let within = next_in_slots r in
    let o = slice_index m.slots c.args.slot in
    let owner = c.slot_owner-owner.ensures m r.page.is (omega arith) in
    let first = c.next_of-first.ensures m o owner in
    (owning m o 0, m.next o, still {n = owning m o 0} first (c.own.ensures m o owner) refl refl)

pub own-requires-3-clause-there : goal.own-requires-3-clause-there
own-requires-3-clause-there c =
    let m = c.requires.there.0 in
    let r = c.requires.there.3 in
    let within = next_in_slots r in
    let o = slice_index m.slots c.args.slot in
    let owner = c.slot_owner-owner.ensures m r.page.is (omega arith) in
    let next = c.slot_owner-next.ensures m r.page.is (omega arith) in
    let first = c.next_of-first.ensures m o owner in
    let m1 = owning m o 0 in
    let m2 = owning m1 (m.next o) 4 in
    let one = c.own.ensures m o owner in
    let two = c.own-2.ensures m1 (m.next o) (still {n = m1} first one refl refl) in
    (m2, slice_index m.slots (c.args.slot + 1), still {n = m2} next two refl refl)

pub own-requires-3-clause-small : goal.own-requires-3-clause-small
own-requires-3-clause-small c = let r = c.requires.there in omega (arith, next_most r.3 r.4)

pub name_slot-requires : goal.name_slot-requires
name_slot-requires c =
    let m = c.requires.there.0 in
    let r = c.requires.there.3 in
    let within = next_in_slots r in
    let o = slice_index m.slots c.args.slot in
    let p = slice_index m.slots (c.args.slot + 1) in
    let owner = c.slot_owner-owner.ensures m r.page.is (omega arith) in
    let next = c.slot_owner-next.ensures m r.page.is (omega arith) in
    let first = c.next_of-first.ensures m o owner in
    let m1 = owning m o 0 in
    let m2 = owning m1 (m.next o) 4 in
    let one = c.own.ensures m o owner in
    let two = c.own-2.ensures m1 (m.next o) (still {n = m1} first one refl refl) in
    let three = c.own-3.ensures m2 p (still {n = m2} next two refl refl) in
    (owning m2 p (c.args.count - 1), three, omega arith)

pub returns : goal.returns
returns c = λ m gs free r size.
    let within = next_in_slots r in
    let o = slice_index m.slots c.args.slot in
    let p = slice_index m.slots (c.args.slot + 1) in
    let owner = c.slot_owner-owner.ensures m r.page.is (omega arith) in
    let next = c.slot_owner-next.ensures m r.page.is (omega arith) in
    let first = c.next_of-first.ensures m o owner in
    let m1 = owning m o 0 in
    let m2 = owning m1 (m.next o) 4 in
    let m3 = owning m2 p (c.args.count - 1) in
    let one = c.own.ensures m o owner in
    let two = c.own-2.ensures m1 (m.next o) (still {n = m1} first one refl refl) in
    let three = c.own-3.ensures m2 p (still {n = m2} next two refl refl) in
    let four = c.name_slot.ensures m3 (m.next o) (omega arith) (still {n = m3} first three refl refl) in
    moves r size c.requires.many o (m.next o) p refl refl refl four

pub overflow_add-slot : goal.overflow_add-slot
overflow_add-slot c = record { fits = next_fits c.requires.there.3 }

pub slot_owner-next-requires : goal.slot_owner-next-requires
slot_owner-next-requires c =
    let r = c.requires.there in
    (r.0, r.3.page.is, next_in_slots r.3)

pub slot_owner-owner-requires : goal.slot_owner-owner-requires
slot_owner-owner-requires c =
    let r = c.requires.there in
    (r.0, r.3.page.is, here_in_slots r.3)
