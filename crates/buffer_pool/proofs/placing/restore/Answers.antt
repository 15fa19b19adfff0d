use Rattle.std.proofs.Common.{◌≡◌, sym, ◌∙◌, Some, None, Option}
use Rattle.forest_law.specs.declared.objects.Stored.{Stored}
use Rattle.buffer_pool.proofs.AgainLemmas.{passes_both}
use Rattle.buffer_pool.proofs.CallLemmas.{frame_has, pool_has}
use Rattle.buffer_pool.proofs.KnownLemmas.{age_still}
use Rattle.buffer_pool.proofs.RestoreLemmas.{restored_place, restored_image, restored_there, may_restore, restores}
use Rattle.buffer_pool.proofs.SpaceLemmas.{objects_of}
use Rattle.buffer_pool.proofs.TurnLemmas.{pool_is}
use Rattle.buffer_pool.proofs.placing.restore.Goals as goal

pub pool_out-pool-requires-clause-held : goal.pool_out-pool-requires-clause-held
pool_out-pool-requires-clause-held c = let m = c.requires.may in (
  m.pool,
  m.pool,
  c.frame_out-frame.ensures.out.hand.pool m.pool m.pool
      (pool_has c.args.pass.now m.both.known m.taken m.pool m.both.pool),
)

pub put_page-requires-clause-place : goal.put_page-requires-clause-place
put_page-requires-clause-place c = restored_place c.args.pass.now c.frame_out-frame.new.pass
    c.pool_out-pool.new.pass c.args.block
    c.frame_out-frame.result c.pool_out-pool.result c.frame_out-frame.ensures.out
    c.pool_out-pool.ensures.out
    c.args.page c.requires.may c.fits.ensures

pub put_page-requires-clause-image : goal.put_page-requires-clause-image
put_page-requires-clause-image c = restored_image c.args.pass.now c.frame_out-frame.new.pass
    c.pool_out-pool.new.pass c.args.block
    c.frame_out-frame.result c.pool_out-pool.result c.frame_out-frame.ensures.out
    c.pool_out-pool.ensures.out
    c.args.page c.requires.may c.fits.ensures

some_is_not : (s : Stored) (o : Option Stored) → o ≡ Some s → o ≡ None → ⊥
some_is_not s o e f = absurd cc

pub unreachable-requires : goal.unreachable-requires
unreachable-requires c = let there = restored_there c.args.pass.now c.frame_out-frame.new.pass
    c.pool_out-pool.new.pass c.args.block
    c.frame_out-frame.result c.pool_out-pool.result c.frame_out-frame.ensures.out
    c.pool_out-pool.ensures.out
    c.args.page c.requires.may c.fits.ensures in
    let e = c.in_default.is in some_is_not there.0 c.put_page.result
    (c.put_page.ensures.had ∙ there.1) e

pub touch-requires : goal.touch-requires
touch-requires c = let m = c.requires.may in
    age_still c.args.pass.now c.args.block m.taken m.pool m.frame m.both c.fits.ensures
    (objects_of c.args.space.now c.args.pass.now c.requires.own.0 c.requires.own.1)
    c.pool_out-pool.result c.put_page.new.pool
    (pool_is c.args.pass.now c.frame_out-frame.new.pass c.pool_out-pool.new.pass c.args.block
    c.frame_out-frame.result c.pool_out-pool.result c.frame_out-frame.ensures.out
    c.pool_out-pool.ensures.out m.taken m.pool m.frame m.both) c.put_page.ensures.puts.ages

pub turn-requires-clause-may : goal.turn-requires-clause-may
turn-requires-clause-may c = may_restore c.args.pass.now c.frame_out-frame.new.pass
    c.pool_out-pool.new.pass c.args.block
    c.frame_out-frame.result c.pool_out-pool.result c.frame_out-frame.ensures.out
    c.pool_out-pool.ensures.out
    c.args.page c.requires.may c.fits.ensures c.in-Some.stored
    (sym c.in-Some.ensures.had) c.put_page.new.pool
    c.put_page.ensures.puts c.touch.new.pool c.touch.ensures c.load.new.frame c.load.ensures

pub returns-clause-restored : goal.returns-clause-restored
returns-clause-restored c = λ t x f both. restores c.args.pass.now c.frame_out-frame.new.pass
    c.pool_out-pool.new.pass c.args.block
    c.frame_out-frame.result c.pool_out-pool.result c.frame_out-frame.ensures.out
    c.pool_out-pool.ensures.out
    c.args.page c.requires.may c.fits.ensures c.in-Some.stored
    (sym c.in-Some.ensures.had) c.put_page.new.pool
    c.put_page.ensures.puts c.touch.new.pool c.touch.ensures c.load.new.frame c.load.ensures
    t x f both c.turn.new.pass c.turn.ensures.turned

pub returns-clause-own : goal.returns-clause-own
returns-clause-own c = (
  passes_both c.args.pass.now c.frame_out-frame.new.pass c.turn.new.pass
      c.frame_out-frame.ensures.own.0 (passes_both c.frame_out-frame.new.pass
      c.pool_out-pool.new.pass c.turn.new.pass c.pool_out-pool.ensures.own.0
      c.turn.ensures.own.0),
  c.turn.ensures.own.1,
)

pub returns-clause-fits : goal.returns-clause-fits
returns-clause-fits c = c.turn.ensures.fits

pub frame_out-frame-requires-clause-held : goal.frame_out-frame-requires-clause-held
frame_out-frame-requires-clause-held c = let m = c.requires.may in
    (m.frame, m.frame, frame_has c.args.pass.now m.both.known c.args.block m.frame m.both.frame)

pub turn-requires-clause-own : goal.turn-requires-clause-own
turn-requires-clause-own c = (c.requires.own.0, c.pool_out-pool.ensures.own.1)
