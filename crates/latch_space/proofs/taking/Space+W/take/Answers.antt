use Rattle.std.proofs.Common.{refl, true≢false, sym}
use Rattle.latch_space.specs.declared.TheConstants.{MAX_HELD}
use Rattle.latch_space.proofs.Tries.{same_pass, own_tried, lacks_tried, few_tried, tried_none, tried_more, taken_after}
use Rattle.latch_space.proofs.taking.Space+W.take.Goals as goal

pub loop-init : goal.loop-init
loop-init g c = ((refl, refl), tried_none c.args.pass.now c.args.object)

pub try_take-requires-clause-own : goal.try_take-requires-clause-own
try_take-requires-clause-own g c = own_tried c.args.pass.now c.loop.pass c.args.object c.loop.invariant.1 c.args.self.now c.loop.invariant.0.0 c.requires.own

pub try_take-requires-clause-lacks : goal.try_take-requires-clause-lacks
try_take-requires-clause-lacks g c = lacks_tried c.args.pass.now c.loop.pass c.args.object c.loop.invariant.1 c.requires.lacks

pub try_take-requires-clause-room : goal.try_take-requires-clause-room
try_take-requires-clause-room g c = few_tried c.args.pass.now c.loop.pass c.args.object c.loop.invariant.1 MAX_HELD c.requires.room

pub returns-in-Taken-clause-own : goal.returns-in-Taken-clause-own
returns-in-Taken-clause-own g c = (same_pass c.args.pass.now c.loop.pass c.try_take.new.pass c.loop.invariant.0 c.try_take.ensures.own.0, c.try_take.ensures.own.1)

pub returns-in-Taken-clause-did : goal.returns-in-Taken-clause-did
returns-in-Taken-clause-did g c = taken_after g.W.World.lawful g.W.World.answers g.W.World.refers c.args.pass.now c.loop.pass c.try_take.new.pass c.args.object c.loop.invariant.1 c.in-Taken.ensures.did

pub loop-preserved : goal.loop-preserved
loop-preserved g c = (same_pass c.args.pass.now c.loop.pass c.try_take.new.pass c.loop.invariant.0 c.try_take.ensures.own.0, tried_more g.W.World.lawful g.W.World.answers g.W.World.refers c.args.pass.now c.loop.pass c.try_take.new.pass c.args.object _ c.loop.invariant.1 c.in_default.ensures.did)

pub returns-in-Taken-clause-fits : goal.returns-in-Taken-clause-fits
returns-in-Taken-clause-fits g c = c.try_take.ensures.fits

pub loop-preserved-derived : goal.loop-preserved-derived
loop-preserved-derived g c = (tt, tt)

pub unreachable-requires : goal.unreachable-requires
unreachable-requires g c = true≢false (sym c.in-None.ensures.steps)

pub loop-init-derived : goal.loop-init-derived
loop-init-derived g c = (tt, tt)

pub unreachable-unreachable : goal.unreachable-unreachable
unreachable-unreachable g c = c.unreachable.result
