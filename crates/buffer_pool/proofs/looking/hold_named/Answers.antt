use Rattle.std.proofs.Common.{◌≡◌, ◌<◌, sym, ap, subst}
use Rattle.forest_law.specs.declared.objects.Where.TheVariants.{InFrame}
use Rattle.forest_law.specs.State.{where_at}
use Rattle.forest_law.specs.Numbers.{frames_of}
use Rattle.buffer_pool.proofs.AgainLemmas.{passes_both}
use Rattle.buffer_pool.proofs.CallLemmas.{took_frame}
use Rattle.buffer_pool.proofs.LookLemmas.{one_pool, named_below, named_lacked, pool_beside, holds_named, refuses_named}
use Rattle.buffer_pool.proofs.SpaceLemmas.{objects_of}
use Rattle.buffer_pool.proofs.VictimLemmas.{missed_frame}
use Rattle.buffer_pool.proofs.looking.hold_named.Goals as goal

pub try_frame-requires-clause-there : goal.try_frame-requires-clause-there
try_frame-requires-clause-there c = let h = c.requires.pool in
    named_below c.args.pass.now h.0 h.1 h.2 c.args.page c.args.block h.3 c.fits.ensures

pub try_frame-requires-clause-lacks : goal.try_frame-requires-clause-lacks
try_frame-requires-clause-lacks c = let h = c.requires.pool in
    named_lacked c.args.pass.now h.0 h.1 h.2 c.args.page c.args.block h.3 c.fits.ensures
    (objects_of c.args.space.now c.args.pass.now c.requires.own.0 c.requires.own.1)
    c.requires.others

pub set_age-requires-clause-there : goal.set_age-requires-clause-there
set_age-requires-clause-there c = let h = c.requires.pool in
    subst (λ s. c.args.block < frames_of s)
    (sym (ap (λ t. t.shape) c.in-Taken.ensures.did.0.hand.terms))
    (named_below c.args.pass.now h.0 h.1 h.2 c.args.page c.args.block h.3 c.fits.ensures)

pub set_age-requires-clause-known : goal.set_age-requires-clause-known
set_age-requires-clause-known c = (took_frame c.args.pass.now c.try_frame.new.pass
    c.requires.known c.args.block c.in-Taken.ensures.did.0).known

pub set_age-requires-clause-pool : goal.set_age-requires-clause-pool
set_age-requires-clause-pool c = let h = c.requires.pool in (
  h.0,
  h.1,
  pool_beside c.args.pass.now h.0 h.1 h.2 c.args.page c.args.block h.3 c.requires.known
      c.try_frame.new.pass c.in-Taken.ensures.did.0,
)

pub returns-in-Taken-clause-did : goal.returns-in-Taken-clause-did
returns-in-Taken-clause-did c = λ t x held. let h = c.requires.pool in
    let named = subst (λ z. where_at z.place.items c.args.page ≡ InFrame c.args.block)
    (one_pool c.args.pass.now h.0 t h.1 x h.2 held) h.3 in
    holds_named c.args.pass.now t x held c.args.page c.args.block named c.requires.known
    c.try_frame.new.pass c.in-Taken.ensures.did.0
    (named_lacked c.args.pass.now h.0 h.1 h.2 c.args.page c.args.block h.3 c.fits.ensures
    (objects_of c.args.space.now c.args.pass.now c.requires.own.0 c.requires.own.1)
    c.requires.others) c.set_age.new.pass
    (c.set_age.ensures.aged t x
    (pool_beside c.args.pass.now t x held c.args.page c.args.block named c.requires.known
    c.try_frame.new.pass c.in-Taken.ensures.did.0))

pub returns-in-Busy-clause-did : goal.returns-in-Busy-clause-did
returns-in-Busy-clause-did c = λ t x held. let h = c.requires.pool in
    let named = subst (λ z. where_at z.place.items c.args.page ≡ InFrame c.args.block)
    (one_pool c.args.pass.now h.0 t h.1 x h.2 held) h.3 in
    refuses_named c.args.pass.now t x held c.args.page c.args.block named
    (named_lacked c.args.pass.now h.0 h.1 h.2 c.args.page c.args.block h.3 c.fits.ensures
    (objects_of c.args.space.now c.args.pass.now c.requires.own.0 c.requires.own.1)
    c.requires.others) c.try_frame.new.pass
    (missed_frame c.args.pass.now c.try_frame.new.pass c.args.block c.in-Busy.holder
    c.requires.known c.in-Busy.ensures.did)

pub returns-in-Taken-clause-own : goal.returns-in-Taken-clause-own
returns-in-Taken-clause-own c = (
  passes_both c.args.pass.now c.try_frame.new.pass c.set_age.new.pass c.try_frame.ensures.own.0
      c.set_age.ensures.own.0,
  c.set_age.ensures.own.1,
)

pub returns-in-Taken-clause-fits : goal.returns-in-Taken-clause-fits
returns-in-Taken-clause-fits c = c.set_age.ensures.fits
