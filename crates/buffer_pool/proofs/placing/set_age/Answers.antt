use Rattle.buffer_pool.proofs.AgainLemmas.{passes_both}
use Rattle.buffer_pool.proofs.CallLemmas.{pool_has}
use Rattle.buffer_pool.proofs.SetAgeLemmas.{aged_out, aged_room, age_follows, age_whole, sets_age}
use Rattle.buffer_pool.proofs.placing.set_age.Goals as goal

pub pool_out-pool-requires-clause-held : goal.pool_out-pool-requires-clause-held
pool_out-pool-requires-clause-held c = let h = c.requires.pool in
    (h.1, h.1, pool_has c.args.pass.now c.requires.known h.0 h.1 h.2)

pub touch-requires : goal.touch-requires
touch-requires c = let h = c.requires.pool in
    aged_room c.args.pass.now c.pool_out-pool.new.pass c.requires.known
    c.pool_out-pool.result c.pool_out-pool.ensures.out h.0 h.1 h.2
    c.fits.ensures c.args.block c.requires.there

pub pool_back-requires-clause-out : goal.pool_back-requires-clause-out
pool_back-requires-clause-out c = let h = c.requires.pool in (
  h.1,
  aged_out c.args.pass.now c.pool_out-pool.new.pass c.requires.known
      c.pool_out-pool.result c.pool_out-pool.ensures.out h.0 h.1 h.2,
)

pub settle-requires-clause-whole : goal.settle-requires-clause-whole
settle-requires-clause-whole c = let h = c.requires.pool in
    age_whole c.args.pass.now c.pool_out-pool.new.pass c.requires.known
    c.pool_out-pool.result c.pool_out-pool.ensures.out h.0 h.1 h.2
    c.args.block c.touch.new.pool c.touch.ensures c.pool_back.new.pass c.pool_back.ensures.back

pub settle-requires-clause-rule : goal.settle-requires-clause-rule
settle-requires-clause-rule c = let h = c.requires.pool in
    age_follows c.args.pass.now c.pool_out-pool.new.pass c.requires.known
    c.pool_out-pool.result c.pool_out-pool.ensures.out h.0 h.1 h.2
    c.args.block c.touch.new.pool c.touch.ensures c.pool_back.new.pass c.pool_back.ensures.back
    c.hands_keep_the_hash.ensures

pub returns-clause-aged : goal.returns-clause-aged
returns-clause-aged c = λ t x held.
    sets_age c.args.pass.now c.pool_out-pool.new.pass c.requires.known
    c.pool_out-pool.result c.pool_out-pool.ensures.out t x held
    c.args.block c.touch.new.pool c.touch.ensures c.pool_back.new.pass c.pool_back.ensures.back
    c.settle.new.pass c.settle.ensures.did

pub returns-clause-own : goal.returns-clause-own
returns-clause-own c = (
  passes_both c.args.pass.now c.pool_out-pool.new.pass c.settle.new.pass
      c.pool_out-pool.ensures.own.0 (passes_both c.pool_out-pool.new.pass c.pool_back.new.pass
      c.settle.new.pass c.pool_back.ensures.own.0 c.settle.ensures.own.0),
  c.settle.ensures.own.1,
)

pub returns-clause-fits : goal.returns-clause-fits
returns-clause-fits c = c.settle.ensures.fits
