use Rattle.std.proofs.Common.{◌<◌, length, sym, ap, subst, None}
use Rattle.forest_law.specs.declared.objects.Where.TheVariants.{InFrame}
use Rattle.buffer_pool.specs.Turning.{PutsPage}
use Rattle.buffer_pool.proofs.AgainLemmas.{passes_both}
use Rattle.buffer_pool.proofs.BringLemmas.{brought_place, brought_image, may_bring, brings}
use Rattle.buffer_pool.proofs.CallLemmas.{frame_has, pool_has}
use Rattle.buffer_pool.proofs.KnownLemmas.{age_still}
use Rattle.buffer_pool.proofs.SpaceLemmas.{objects_of}
use Rattle.buffer_pool.proofs.TurnLemmas.{pool_is}
use Rattle.buffer_pool.proofs.placing.bring.Goals as goal

pub pool_out-pool-requires-clause-held : goal.pool_out-pool-requires-clause-held
pool_out-pool-requires-clause-held c = let m = c.requires.may in (
  m.pool,
  m.pool,
  c.frame_out-frame.ensures.out.hand.pool m.pool m.pool
      (pool_has c.args.pass.now m.both.known m.taken m.pool m.both.pool),
)

pub set_page-requires-clause-place : goal.set_page-requires-clause-place
set_page-requires-clause-place c =
    subst (λ n. n < length c.pool_out-pool.result.place.items)
    (ap (λ z. z.number) (sym c.head.ensures))
    (brought_place c.args.pass.now c.frame_out-frame.new.pass c.pool_out-pool.new.pass c.args.block
    c.frame_out-frame.result c.pool_out-pool.result c.frame_out-frame.ensures.out
    c.pool_out-pool.ensures.out
    c.args.page c.requires.may c.fits.ensures)

pub set_page-requires-clause-image : goal.set_page-requires-clause-image
set_page-requires-clause-image c =
    subst (λ n. n < length c.pool_out-pool.result.images.items)
    (ap (λ z. z.number) (sym c.head.ensures))
    (brought_image c.args.pass.now c.frame_out-frame.new.pass c.pool_out-pool.new.pass c.args.block
    c.frame_out-frame.result c.pool_out-pool.result c.frame_out-frame.ensures.out
    c.pool_out-pool.ensures.out
    c.args.page c.requires.may c.fits.ensures)

pub touch-requires : goal.touch-requires
touch-requires c = let m = c.requires.may in
    age_still c.args.pass.now c.args.block m.taken m.pool m.frame m.both c.fits.ensures
    (objects_of c.args.space.now c.args.pass.now c.requires.own.0 c.requires.own.1)
    c.pool_out-pool.result c.set_page.new.pool
    (pool_is c.args.pass.now c.frame_out-frame.new.pass c.pool_out-pool.new.pass c.args.block
    c.frame_out-frame.result c.pool_out-pool.result c.frame_out-frame.ensures.out
    c.pool_out-pool.ensures.out m.taken m.pool m.frame m.both) c.set_page.ensures.ages

pub turn-requires-clause-may : goal.turn-requires-clause-may
turn-requires-clause-may c = may_bring c.args.pass.now c.frame_out-frame.new.pass
    c.pool_out-pool.new.pass c.args.block
    c.frame_out-frame.result c.pool_out-pool.result c.frame_out-frame.ensures.out
    c.pool_out-pool.ensures.out
    c.args.page c.requires.may c.fits.ensures c.set_page.new.pool
    (subst (λ n. PutsPage c.pool_out-pool.result n (InFrame c.args.block) None c.set_page.new.pool)
    (ap (λ z. z.number) c.head.ensures) c.set_page.ensures) c.touch.new.pool
    c.touch.ensures c.load.new.frame c.load.ensures

pub returns-clause-brought : goal.returns-clause-brought
returns-clause-brought c = λ t x f both. brings c.args.pass.now c.frame_out-frame.new.pass
    c.pool_out-pool.new.pass c.args.block
    c.frame_out-frame.result c.pool_out-pool.result c.frame_out-frame.ensures.out
    c.pool_out-pool.ensures.out
    c.args.page c.requires.may c.fits.ensures c.set_page.new.pool
    (subst (λ n. PutsPage c.pool_out-pool.result n (InFrame c.args.block) None c.set_page.new.pool)
    (ap (λ z. z.number) c.head.ensures) c.set_page.ensures) c.touch.new.pool
    c.touch.ensures c.load.new.frame c.load.ensures t x f both c.turn.new.pass c.turn.ensures.turned

pub returns-clause-own : goal.returns-clause-own
returns-clause-own c = (
  passes_both c.args.pass.now c.frame_out-frame.new.pass c.turn.new.pass
      c.frame_out-frame.ensures.own.0 (passes_both c.frame_out-frame.new.pass
      c.pool_out-pool.new.pass c.turn.new.pass c.pool_out-pool.ensures.own.0
      c.turn.ensures.own.0),
  c.turn.ensures.own.1,
)

pub returns-clause-fits : goal.returns-clause-fits
returns-clause-fits c = c.turn.ensures.fits

pub frame_out-frame-requires-clause-held : goal.frame_out-frame-requires-clause-held
frame_out-frame-requires-clause-held c = let m = c.requires.may in
    (m.frame, m.frame, frame_has c.args.pass.now m.both.known c.args.block m.frame m.both.frame)
