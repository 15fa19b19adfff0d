use Rattle.std.proofs.Common.{inl, refl}
use Rattle.hash_maintain.specs.Leaves.{unhashed}
use Rattle.buffer_pool.proofs.AgainLemmas.{passes_both}
use Rattle.buffer_pool.proofs.CallLemmas.{frame_has, pool_has}
use Rattle.buffer_pool.proofs.EvictLemmas.{has_places, may_evict, evict_turns, evict_empty, evict_clears}
use Rattle.buffer_pool.proofs.GivingLemmas.{unhashed_both, unhashed_empties}
use Rattle.buffer_pool.proofs.victims.evict.Goals as goal

pub frame_out-frame-requires-clause-held : goal.frame_out-frame-requires-clause-held
frame_out-frame-requires-clause-held g c = let h = c.requires.both in
    let both = unhashed_both c.args.pass.now c.unhash_block.new.pass c.args.block
    c.unhash_block.ensures.did h.0 h.1 h.2 h.4 in (
      unhashed h.2,
      unhashed h.2,
      frame_has c.unhash_block.new.pass both.known c.args.block
          (unhashed h.2) both.frame,
    )

pub pool_out-pool-requires-clause-held : goal.pool_out-pool-requires-clause-held
pool_out-pool-requires-clause-held g c = let h = c.requires.both in
    let both = unhashed_both c.args.pass.now c.unhash_block.new.pass c.args.block
    c.unhash_block.ensures.did h.0 h.1 h.2 h.4 in (
      h.1,
      h.1,
      c.frame_out-frame.ensures.out.hand.pool h.1 h.1
          (pool_has c.unhash_block.new.pass both.known h.0 h.1 both.pool),
    )

pub set_aside-requires : goal.set_aside-requires
set_aside-requires g c = let h = c.requires.both in
    let both = unhashed_both c.args.pass.now c.unhash_block.new.pass c.args.block
    c.unhash_block.ensures.did h.0 h.1 h.2 h.4 in
    has_places c.unhash_block.new.pass c.frame_out-frame.new.pass c.pool_out-pool.new.pass
    c.args.block c.frame_out-frame.result c.pool_out-pool.result c.frame_out-frame.ensures.out
    c.pool_out-pool.ensures.out h.0 h.1 (unhashed h.2) both c.unhash_block.ensures.fits h.3 h.5

pub turn-requires-clause-may : goal.turn-requires-clause-may
turn-requires-clause-may g c = let h = c.requires.both in
    let both = unhashed_both c.args.pass.now c.unhash_block.new.pass c.args.block
    c.unhash_block.ensures.did h.0 h.1 h.2 h.4 in
    may_evict c.unhash_block.new.pass c.frame_out-frame.new.pass c.pool_out-pool.new.pass
    c.args.block c.frame_out-frame.result c.pool_out-pool.result c.frame_out-frame.ensures.out
    c.pool_out-pool.ensures.out h.0 h.1 (unhashed h.2) both c.unhash_block.ensures.fits
    c.set_aside.new.frame c.set_aside.ensures.stored c.set_aside.ensures.unloads
    c.set_aside.new.pool c.set_aside.ensures.puts h.6 refl

pub unhash_block-requires-clause-held : goal.unhash_block-requires-clause-held
unhash_block-requires-clause-held g c = let h = c.requires.both in (h.2, h.4.frame)

pub unhash_block-requires-clause-may : goal.unhash_block-requires-clause-may
unhash_block-requires-clause-may g c = λ f knows. let h = c.requires.both in
    inl (h.0, h.1, h.4.pool)

pub unhash_block-requires-clause-known : goal.unhash_block-requires-clause-known
unhash_block-requires-clause-known g c = c.requires.both.4.known

pub returns-clause-empty : goal.returns-clause-empty
returns-clause-empty g c = λ t x f both.
    let u = c.unhash_block.new.pass in let p1 = c.frame_out-frame.new.pass in
    let p2 = c.pool_out-pool.new.pass in let b = c.args.block in
    let frame = c.frame_out-frame.result in let pool = c.pool_out-pool.result in
    let out = c.frame_out-frame.ensures.out in let outside = c.pool_out-pool.ensures.out in
    let did = c.unhash_block.ensures.did in
    let then = unhashed_both c.args.pass.now u b did t x f both in
    let fits = c.unhash_block.ensures.fits in let y = c.set_aside.new.pool in
    let g' = c.set_aside.new.frame in let aside = c.set_aside.ensures in
    unhashed_empties c.args.pass.now u b did t x f both.frame c.turn.new.pass y g'
    (evict_turns u p1 p2 b frame pool out outside t x (unhashed f) then fits g' aside.stored
    aside.unloads y aside.puts c.turn.new.pass c.turn.ensures.turned)
    (evict_empty u p1 p2 b frame pool out outside t x (unhashed f) then fits g' aside.stored
    aside.unloads y aside.puts)
    (evict_clears u p1 p2 b frame pool out outside t x (unhashed f) then fits g' aside.stored
    aside.unloads y aside.puts)

pub returns-clause-own : goal.returns-clause-own
returns-clause-own g c = (
  passes_both c.args.pass.now c.unhash_block.new.pass c.turn.new.pass
      c.unhash_block.ensures.own.0 (passes_both c.unhash_block.new.pass
      c.frame_out-frame.new.pass c.turn.new.pass c.frame_out-frame.ensures.own.0 (passes_both
      c.frame_out-frame.new.pass c.pool_out-pool.new.pass c.turn.new.pass
      c.pool_out-pool.ensures.own.0 c.turn.ensures.own.0)),
  c.turn.ensures.own.1,
)

pub returns-clause-fits : goal.returns-clause-fits
returns-clause-fits g c = c.turn.ensures.fits
