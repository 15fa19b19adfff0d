use Rattle.std.proofs.Common.{◌≡◌, ℕ, ◌-◌, ◌<◌, ◌≤◌, arith}
use Rattle.page_mirror.proofs.MoveLemmas.{moves_on_more, slot_is_open}
use Rattle.page_mirror.proofs.slots.move_on.Goals as goal

less_within : (s count : ℕ) → s ≤ count → s - 1 ≤ count
less_within s count within = omega arith

above_less : (slot s : ℕ) → slot < s → slot ≤ s - 1
above_less slot s more = omega arith

some : (slot s : ℕ) → slot < s → 1 ≤ s
some slot s more = omega arith

both : (slot s : ℕ) → slot ≤ s → s ≤ slot → s ≡ slot
both slot s low high = omega arith

pub loop-s-preserved : goal.loop-s-preserved
loop-s-preserved c =
    let i = c.loop-s.invariant in
    let more = c.loop-s-test.true in
    record {
      within = less_within c.loop-s.s c.args.count i.within;
      low = above_less c.args.slot c.loop-s.s more;
      moves = moves_on_more c.loop-s.s c.args.count c.get_slot-owner.result i.moves (some c.args.slot c.loop-s.s more) i.within c.requires.count
          c.get_slot-owner.ensures c.put_slot.ensures.value c.put_slot.ensures.kept;
    }

pub returns : goal.returns
returns c =
    let i = c.loop-s.invariant in
    slot_is_open c.args.slot c.loop-s.s c.args.count i.moves (both c.args.slot c.loop-s.s i.low c.loop-s-test.false) c.requires.slot c.requires.count
    c.put_slot-2.ensures.value c.put_slot-2.ensures.kept
