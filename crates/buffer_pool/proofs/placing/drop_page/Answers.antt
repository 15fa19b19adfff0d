use Rattle.std.proofs.Common.{refl}
use Rattle.buffer_pool.proofs.AgainLemmas.{passes_both}
use Rattle.buffer_pool.proofs.CallLemmas.{frame_has, pool_has}
use Rattle.buffer_pool.proofs.DropLemmas.{may_drop, drops}
use Rattle.buffer_pool.proofs.EvictLemmas.{has_places}
use Rattle.buffer_pool.proofs.KnownLemmas.{age_still}
use Rattle.buffer_pool.proofs.SpaceLemmas.{objects_of}
use Rattle.buffer_pool.proofs.TurnLemmas.{pool_is}
use Rattle.buffer_pool.proofs.placing.drop_page.Goals as goal

pub frame_out-frame-requires-clause-held : goal.frame_out-frame-requires-clause-held
frame_out-frame-requires-clause-held c = let m = c.requires.may.1 in
    (m.frame, m.frame, frame_has c.args.pass.now m.both.known c.args.block m.frame m.both.frame)

pub pool_out-pool-requires-clause-held : goal.pool_out-pool-requires-clause-held
pool_out-pool-requires-clause-held c = let m = c.requires.may.1 in (
  m.pool,
  m.pool,
  c.frame_out-frame.ensures.out.hand.pool m.pool m.pool
      (pool_has c.args.pass.now m.both.known m.taken m.pool m.both.pool),
)

pub clear-requires-clause-places : goal.clear-requires-clause-places
clear-requires-clause-places c = let m = c.requires.may.1 in has_places c.args.pass.now
    c.frame_out-frame.new.pass c.pool_out-pool.new.pass c.args.block
    c.frame_out-frame.result c.pool_out-pool.result c.frame_out-frame.ensures.out
    c.pool_out-pool.ensures.out
    m.taken m.pool m.frame m.both c.fits.ensures c.requires.may.0 m.paged

pub clear-requires-clause-age : goal.clear-requires-clause-age
clear-requires-clause-age c = let m = c.requires.may.1 in
    age_still c.args.pass.now c.args.block m.taken m.pool m.frame m.both c.fits.ensures
    (objects_of c.args.space.now c.args.pass.now c.requires.own.0 c.requires.own.1)
    c.pool_out-pool.result c.pool_out-pool.result
    (pool_is c.args.pass.now c.frame_out-frame.new.pass c.pool_out-pool.new.pass c.args.block
    c.frame_out-frame.result c.pool_out-pool.result c.frame_out-frame.ensures.out
    c.pool_out-pool.ensures.out m.taken m.pool m.frame m.both) refl

pub turn-requires-clause-may : goal.turn-requires-clause-may
turn-requires-clause-may c = may_drop c.args.pass.now c.frame_out-frame.new.pass
    c.pool_out-pool.new.pass c.args.block
    c.frame_out-frame.result c.pool_out-pool.result c.frame_out-frame.ensures.out
    c.pool_out-pool.ensures.out c.clear.new.frame c.clear.new.pool c.clear.ensures
    c.fits.ensures c.requires.may.0 c.requires.may.1

pub returns-clause-freed : goal.returns-clause-freed
returns-clause-freed c = λ page t x f both paged. drops c.args.pass.now c.frame_out-frame.new.pass
    c.pool_out-pool.new.pass c.args.block
    c.frame_out-frame.result c.pool_out-pool.result c.frame_out-frame.ensures.out
    c.pool_out-pool.ensures.out c.clear.new.frame c.clear.new.pool c.clear.ensures
    c.fits.ensures page t x f both paged c.turn.new.pass c.turn.ensures.turned

pub returns-clause-own : goal.returns-clause-own
returns-clause-own c = (
  passes_both c.args.pass.now c.frame_out-frame.new.pass c.turn.new.pass
      c.frame_out-frame.ensures.own.0 (passes_both c.frame_out-frame.new.pass
      c.pool_out-pool.new.pass c.turn.new.pass c.pool_out-pool.ensures.own.0
      c.turn.ensures.own.0),
  c.turn.ensures.own.1,
)

pub returns-clause-fits : goal.returns-clause-fits
returns-clause-fits c = c.turn.ensures.fits
