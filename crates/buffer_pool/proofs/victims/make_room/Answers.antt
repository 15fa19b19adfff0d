use Rattle.std.proofs.Common.{arith}
use Rattle.buffer_pool.proofs.AgainLemmas.{passes_both}
use Rattle.buffer_pool.proofs.EmptyLemmas.{victim_both, victim_parts, holds_room}
use Rattle.buffer_pool.proofs.victims.make_room.Goals as goal

pub empty_frame-requires-clause-both : goal.empty_frame-requires-clause-both
empty_frame-requires-clause-both g c = let h = c.requires.pool in
    let victim = c.in-Some.ensures.did h.0 h.1 h.2 in (
      h.0,
      h.1,
      victim.holds.frame,
      victim_both c.args.pass.now c.try_victim.new.pass h.1 c.in-Some.block victim h.0 h.2,
      victim.holds.inside,
    )

pub empty_frame-requires-clause-parts : goal.empty_frame-requires-clause-parts
empty_frame-requires-clause-parts g c = let h = c.requires.pool in
    victim_parts c.args.pass.now c.try_victim.new.pass h.1 c.in-Some.block
    (c.in-Some.ensures.did h.0 h.1 h.2) h.0 h.2 c.requires.parts

pub empty_frame-requires-clause-room : goal.empty_frame-requires-clause-room
empty_frame-requires-clause-room g c = let h = c.requires.pool in
    let more = (c.in-Some.ensures.did h.0 h.1 h.2).holds.count in let room = c.requires.room in
    omega (arith, more, room)

pub returns-clause-did : goal.returns-clause-did
returns-clause-did g c = λ t x held. let victim = c.in-Some.ensures.did t x held in
    holds_room c.args.pass.now c.try_victim.new.pass x c.in-Some.block victim t held
    c.try_victim.ensures.fits c.empty_frame.new.pass
    (c.empty_frame.ensures.empty t x victim.holds.frame
    (victim_both c.args.pass.now c.try_victim.new.pass x c.in-Some.block victim t held))

pub returns-clause-own : goal.returns-clause-own
returns-clause-own g c = (
  passes_both c.args.pass.now c.try_victim.new.pass c.empty_frame.new.pass
      c.try_victim.ensures.own.0 c.empty_frame.ensures.own.0,
  c.empty_frame.ensures.own.1,
)

pub returns-clause-fits : goal.returns-clause-fits
returns-clause-fits g c = c.empty_frame.ensures.fits
