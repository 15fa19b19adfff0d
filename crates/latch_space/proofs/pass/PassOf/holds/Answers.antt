use Rattle.std.proofs.Common.{arith, sym, ◌∙◌, ◌+◌}
use Rattle.latch_space.proofs.InHand.{found_here, found_behind, none_behind}
use Rattle.latch_space.proofs.pass.PassOf.holds.Goals as goal

pub returns-then-place-object : goal.returns-then-place-object
returns-then-place-object g c = let p = c.args.self.now in
    sym (found_here c.deref-place-items.result.now p.hand.items c.deref-place-items.ensures.value c.loop-place.place-index c.args.object c.place-item.result c.loop-place-test.true c.place-item.is c.if-place-object.true)
    ∙ (c.loop-place.invariant ∙ p.holding c.args.object)

pub loop-place-preserved : goal.loop-place-preserved
loop-place-preserved g c = found_behind c.deref-place-items.result.now c.args.self.now.hand.items c.deref-place-items.ensures.value c.loop-place.place-index c.args.object c.place-item.result (c.loop-place.place-index + 1) c.loop-place-test.true c.place-item.is c.if-place-object.false (omega arith)
    ∙ c.loop-place.invariant

pub returns : goal.returns
returns g c = let p = c.args.self.now in
    sym (none_behind c.deref-place-items.result.now p.hand.items c.deref-place-items.ensures.value c.loop-place.place-index c.args.object c.loop-place-test.false) ∙ (c.loop-place.invariant ∙ p.holding c.args.object)
