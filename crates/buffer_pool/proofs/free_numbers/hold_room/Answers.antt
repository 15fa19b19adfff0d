use Rattle.std.proofs.Common.{◌<◌, sym, subst, refl, arith}
use Rattle.buffer_pool.proofs.AgainLemmas.{passes_both, gives_none, gives_shape, gives_no_table, gives_both, never_ends}
use Rattle.buffer_pool.proofs.FreeLemmas.{gives_free, gives_full}
use Rattle.buffer_pool.proofs.free_numbers.hold_room.Goals as goal

pub loop-init : goal.loop-init
loop-init g c = record {
  same = (refl, refl);
  own = c.requires.own.1;
  gives = gives_none c.args.pass.now c.requires.known;
}

pub try_room-requires-clause-own : goal.try_room-requires-clause-own
try_room-requires-clause-own g c = (c.requires.own.0, c.loop.invariant.own)

pub try_room-requires-clause-index : goal.try_room-requires-clause-index
try_room-requires-clause-index g c = subst (λ s. c.args.index < s.indexes)
    (sym (gives_shape c.args.pass.now c.loop.pass c.loop.invariant.gives)) c.requires.index

pub try_room-requires-clause-known : goal.try_room-requires-clause-known
try_room-requires-clause-known g c = c.loop.invariant.gives.got.silently.does.known

pub try_room-requires-clause-tables : goal.try_room-requires-clause-tables
try_room-requires-clause-tables g c = gives_no_table c.args.pass.now c.loop.pass
    c.loop.invariant.gives c.requires.tables

pub try_room-requires-clause-room : goal.try_room-requires-clause-room
try_room-requires-clause-room g c = let same = c.loop.invariant.gives.got.count in
    let room = c.requires.room in omega (arith, same, room)

pub returns-in-Room-clause-ok : goal.returns-in-Room-clause-ok
returns-in-Room-clause-ok g c = gives_free c.args.pass.now c.loop.pass c.try_room.new.pass
    c.loop.invariant.gives c.in-Room.number c.in-Room.block c.in-Room.ensures.did

pub returns-in-NoneFree-clause-full : goal.returns-in-NoneFree-clause-full
returns-in-NoneFree-clause-full g c = (
  refl,
  gives_full c.args.pass.now c.loop.pass c.try_room.new.pass c.loop.invariant.gives c.args.index
      c.in-NoneFree.ensures.did,
)

pub loop-preserved : goal.loop-preserved
loop-preserved g c = record {
  same = passes_both c.args.pass.now c.loop.pass c.try_room.new.pass c.loop.invariant.same
      c.try_room.ensures.own.0;
  own = c.try_room.ensures.own.1;
  gives = gives_both c.args.pass.now c.loop.pass c.loop.invariant.gives c.try_room.new.pass
      c.in-NoRoom.ensures.did;
}

pub returns-in-Room-clause-own : goal.returns-in-Room-clause-own
returns-in-Room-clause-own g c = (
  passes_both c.args.pass.now c.loop.pass c.try_room.new.pass c.loop.invariant.same
      c.try_room.ensures.own.0,
  c.try_room.ensures.own.1,
)

pub returns-in-Room-clause-fits : goal.returns-in-Room-clause-fits
returns-in-Room-clause-fits g c = c.try_room.ensures.fits

pub returns-in-NoneFree-clause-own : goal.returns-in-NoneFree-clause-own
returns-in-NoneFree-clause-own g c = (
  passes_both c.args.pass.now c.loop.pass c.try_room.new.pass c.loop.invariant.same
      c.try_room.ensures.own.0,
  c.try_room.ensures.own.1,
)

pub returns-in-NoneFree-clause-fits : goal.returns-in-NoneFree-clause-fits
returns-in-NoneFree-clause-fits g c = c.try_room.ensures.fits

pub returns-in-Room-clause-full : goal.returns-in-Room-clause-full
returns-in-Room-clause-full g c = tt

pub returns-in-NoneFree-clause-ok : goal.returns-in-NoneFree-clause-ok
returns-in-NoneFree-clause-ok g c = tt

pub loop-preserved-derived : goal.loop-preserved-derived
loop-preserved-derived g c = (tt, tt)

pub unreachable-requires : goal.unreachable-requires
unreachable-requires g c = never_ends c.in-None.ensures.steps
