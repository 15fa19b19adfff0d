use Rattle.std.proofs.Common.{arith}
use Rattle.page_mirror.proofs.MoveLemmas.{moves_on_back, last_is_cleared}
use Rattle.page_mirror.proofs.slots.move_back.Goals as goal

pub loop-s-preserved : goal.loop-s-preserved
loop-s-preserved c =
    moves_on_back c.args.slot c.loop-s.s c.get_slot-owner.result c.loop-s.invariant (omega (arith, c.loop-s.auto.s)) (omega (arith, c.loop-s-test.true)) c.get_slot-owner.ensures c.put_slot.ensures.value c.put_slot.ensures.kept

pub returns : goal.returns
returns c =
    last_is_cleared c.args.slot c.loop-s.s c.args.count c.loop-s.invariant (omega (arith, c.loop-s-test.false, c.loop-s.auto.s-end)) (omega arith) (omega arith) c.put_slot-2.ensures.value c.put_slot-2.ensures.kept
