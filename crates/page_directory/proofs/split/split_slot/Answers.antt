use Rattle.std.proofs.Common.{arith, refl, ◌-◌, slice_index}
use Rattle.page_mirror.specs.Steps.{owning}
use Rattle.page_mirror.proofs.HeadLemmas.{still}
use Rattle.page_directory.proofs.SplitLemmas.{splits, in_slots, last_in_slots}
use Rattle.page_directory.proofs.split.split_slot.Goals as goal

pub fourth_after-fourth-requires : goal.fourth_after-fourth-requires
fourth_after-fourth-requires c =
    let r = c.requires.3 in
    let m = c.requires.0 in
    let within = in_slots r in (
      m,
      slice_index m.slots (c.args.slot - 1),
      c.slot_owner-last.ensures m r.page.is (omega arith),
    )

pub own-requires-clause-there : goal.own-requires-clause-there
own-requires-clause-there c =
    let r = c.requires.3 in
    let m = c.requires.0 in
    let within = in_slots r in
    let last = c.slot_owner-last.ensures m r.page.is (omega arith) in (
      m,
      m.next (m.next (m.next (m.next (slice_index m.slots (c.args.slot - 1))))),
      c.fourth_after-fourth.ensures m (slice_index m.slots (c.args.slot - 1)) last,
    )

pub own-requires-2-clause-there : goal.own-requires-2-clause-there
own-requires-2-clause-there c =
    let r = c.requires.3 in
    let m = c.requires.0 in
    let within = in_slots r in
    let last = c.slot_owner-last.ensures m r.page.is (omega arith) in
    let q = m.next (m.next (m.next (m.next (slice_index m.slots (c.args.slot - 1))))) in
    let fourth = c.fourth_after-fourth.ensures m (slice_index m.slots (c.args.slot - 1)) last in
    let owner = c.slot_owner-owner.ensures m r.page.is (omega arith) in (
      owning m q 4,
      slice_index m.slots c.args.slot,
      still {n = owning m q 4} owner (c.own.ensures m q fourth) refl refl,
    )

pub open_slot-requires : goal.open_slot-requires
open_slot-requires c =
    let r = c.requires.3 in
    let m = c.requires.0 in
    let within = in_slots r in
    let last = c.slot_owner-last.ensures m r.page.is (omega arith) in
    let q = m.next (m.next (m.next (m.next (slice_index m.slots (c.args.slot - 1))))) in
    let fourth = c.fourth_after-fourth.ensures m (slice_index m.slots (c.args.slot - 1)) last in
    let owner = c.slot_owner-owner.ensures m r.page.is (omega arith) in
    let first = c.own.ensures m q fourth in
    let second = c.own-2.ensures (owning m q 4) (slice_index m.slots c.args.slot) (still {n = owning m q 4} owner first refl refl) in (
      owning (owning m q 4) (slice_index m.slots c.args.slot) 5,
      second,
      omega arith,
      r.room,
    )

pub returns : goal.returns
returns c = λ m gs free r.
    let within = in_slots r in
    let last = c.slot_owner-last.ensures m r.page.is (omega arith) in
    let q = m.next (m.next (m.next (m.next (slice_index m.slots (c.args.slot - 1))))) in
    let o = slice_index m.slots c.args.slot in
    let fourth = c.fourth_after-fourth.ensures m (slice_index m.slots (c.args.slot - 1)) last in
    let owner = c.slot_owner-owner.ensures m r.page.is (omega arith) in
    let first = c.own.ensures m q fourth in
    let second = c.own-2.ensures (owning m q 4) o (still {n = owning m q 4} owner first refl refl) in
    let third = c.open_slot.ensures (owning (owning m q 4) o 5) q (omega arith) r.room
    (still {n = owning (owning m q 4) o 5} fourth second refl refl) in
    splits r q o refl refl third

pub slot_owner-owner-requires : goal.slot_owner-owner-requires
slot_owner-owner-requires c =
    let r = c.requires in
    (r.0, r.3.page.is, in_slots r.3)

pub slot_owner-last-requires : goal.slot_owner-last-requires
slot_owner-last-requires c =
    let r = c.requires in
    (r.0, r.3.page.is, last_in_slots r.3)
