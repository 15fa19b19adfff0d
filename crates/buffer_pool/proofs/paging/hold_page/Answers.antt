use Rattle.std.proofs.Common.{◌<◌, sym, subst, refl, arith}
use Rattle.buffer_pool.proofs.AgainLemmas.{passes_both, gives_none, gives_shape, gives_others, gives_no_table, gives_both, gives_pages, gives_finds_none, refused_gives, never_ends}
use Rattle.buffer_pool.proofs.paging.hold_page.Goals as goal

pub loop-init : goal.loop-init
loop-init g c = record {
  same = (refl, refl);
  own = c.requires.own.1;
  gives = gives_none c.args.pass.now c.requires.known;
}

pub look_for-requires-clause-own : goal.look_for-requires-clause-own
look_for-requires-clause-own g c = (c.requires.own.0, c.loop.invariant.own)

pub look_for-requires-clause-there : goal.look_for-requires-clause-there
look_for-requires-clause-there g c = subst (λ s. c.args.page < s.pages)
    (sym (gives_shape c.args.pass.now c.loop.pass c.loop.invariant.gives)) c.requires.there

pub look_for-requires-clause-known : goal.look_for-requires-clause-known
look_for-requires-clause-known g c = c.loop.invariant.gives.got.silently.does.known

pub look_for-requires-clause-others : goal.look_for-requires-clause-others
look_for-requires-clause-others g c = gives_others c.args.pass.now c.loop.pass
    c.loop.invariant.gives c.args.page c.requires.others

pub look_for-requires-clause-tables : goal.look_for-requires-clause-tables
look_for-requires-clause-tables g c = gives_no_table c.args.pass.now c.loop.pass
    c.loop.invariant.gives c.requires.tables

pub look_for-requires-clause-room : goal.look_for-requires-clause-room
look_for-requires-clause-room g c = let same = c.loop.invariant.gives.got.count in
    let room = c.requires.room in omega (arith, same, room)

pub returns-in-Held-clause-did : goal.returns-in-Held-clause-did
returns-in-Held-clause-did g c = gives_pages c.args.pass.now c.loop.pass c.loop.invariant.gives
    c.look_for.new.pass c.args.page c.in-Held.block c.in-Held.ensures.did

pub returns-in-Free-clause-did : goal.returns-in-Free-clause-did
returns-in-Free-clause-did g c = gives_finds_none c.args.pass.now c.loop.pass
    c.loop.invariant.gives c.look_for.new.pass c.args.page c.in-Free.ensures.did

pub loop-preserved-in-Busy : goal.loop-preserved-in-Busy
loop-preserved-in-Busy g c = record {
  same = passes_both c.args.pass.now c.loop.pass c.look_for.new.pass c.loop.invariant.same
      c.look_for.ensures.own.0;
  own = c.look_for.ensures.own.1;
  gives = gives_both c.args.pass.now c.loop.pass c.loop.invariant.gives c.look_for.new.pass
      (refused_gives c.loop.pass c.look_for.new.pass c.args.page c.in-Busy.ensures.did);
}

pub loop-preserved : goal.loop-preserved
loop-preserved g c = record {
  same = passes_both c.args.pass.now c.loop.pass c.look_for.new.pass c.loop.invariant.same
      c.look_for.ensures.own.0;
  own = c.look_for.ensures.own.1;
  gives = gives_both c.args.pass.now c.loop.pass c.loop.invariant.gives c.look_for.new.pass
      c.in-NoRoom.ensures.did;
}

pub returns-in-Held-clause-own : goal.returns-in-Held-clause-own
returns-in-Held-clause-own g c = (
  passes_both c.args.pass.now c.loop.pass c.look_for.new.pass c.loop.invariant.same
      c.look_for.ensures.own.0,
  c.look_for.ensures.own.1,
)

pub returns-in-Held-clause-fits : goal.returns-in-Held-clause-fits
returns-in-Held-clause-fits g c = c.look_for.ensures.fits

pub returns-in-Free-clause-own : goal.returns-in-Free-clause-own
returns-in-Free-clause-own g c = (
  passes_both c.args.pass.now c.loop.pass c.look_for.new.pass c.loop.invariant.same
      c.look_for.ensures.own.0,
  c.look_for.ensures.own.1,
)

pub returns-in-Free-clause-fits : goal.returns-in-Free-clause-fits
returns-in-Free-clause-fits g c = c.look_for.ensures.fits

pub unreachable-requires : goal.unreachable-requires
unreachable-requires g c = never_ends c.in-None.ensures.steps

pub loop-preserved-in-Busy-derived : goal.loop-preserved-in-Busy-derived
loop-preserved-in-Busy-derived g c = (tt, tt)

pub loop-preserved-derived : goal.loop-preserved-derived
loop-preserved-derived g c = (tt, tt)
