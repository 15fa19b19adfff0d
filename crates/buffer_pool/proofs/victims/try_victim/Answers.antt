use Rattle.std.proofs.Common.{ℕ, ◌<◌, List, length, IfSome, sym, ap, subst, refl, arith}
use Rattle.block_ages.specs.Order.{IsNext}
use Rattle.buffer_pool.proofs.AgainLemmas.{passes_both}
use Rattle.buffer_pool.proofs.CallLemmas.{pool_has}
use Rattle.buffer_pool.proofs.SpaceLemmas.{objects_of}
use Rattle.buffer_pool.proofs.VictimLemmas.{tried_none, pool_known_still, ages_read, frames_counted, tries_next, takes_next}
use Rattle.buffer_pool.proofs.victims.try_victim.Goals as goal

pub pool-requires : goal.pool-requires
pool-requires c = let h = c.requires.pool in
    (h.1, h.1, pool_has c.args.pass.now c.requires.known h.0 h.1 h.2)

pub loop-i-init : goal.loop-i-init
loop-i-init c = record {
  same = (refl, refl);
  own = c.requires.own.1;
  fits = c.fits.ensures;
  tried = λ t x held. tried_none c.args.pass.now x c.requires.known;
}

pub pool-requires-in-loop-i : goal.pool-requires-in-loop-i
pool-requires-in-loop-i c = let h = c.requires.pool in
    let tried = c.loop-i.invariant.tried h.0 h.1 h.2 in (
      h.1,
      h.1,
      pool_has c.loop-i.pass tried.tries.does.known h.0 h.1
          (pool_known_still c.args.pass.now c.loop-i.pass h.1 c.loop-i.last tried h.0 h.2),
    )

pub next-requires-clause-few : goal.next-requires-clause-few
next-requires-clause-few c = let h = c.requires.pool in let counted = frames_counted
    c.args.pass.now c.loop-i.pass h.1 c.loop-i.last
    (c.loop-i.invariant.tried h.0 h.1 h.2) h.0 h.2 c.pool-in-loop-i.result.now
    c.pool-in-loop-i.ensures
    c.loop-i.invariant.fits in
    let objects = objects_of c.args.space.now c.loop-i.pass c.requires.own.0
    c.loop-i.invariant.own in
    let terms = ap (λ t. t.objects) c.loop-i.invariant.own.1 in
    let few = c.args.space.now.small.1 in omega (arith, counted, objects, terms, few)

pub next-requires-clause-last : goal.next-requires-clause-last
next-requires-clause-last c = let h = c.requires.pool in
    subst (λ (xs : List ℕ). IfSome c.loop-i.last (λ b. b < length xs))
    (sym (ages_read c.args.pass.now c.loop-i.pass h.1 c.loop-i.last
    (c.loop-i.invariant.tried h.0 h.1 h.2) h.0 h.2 c.pool-in-loop-i.result.now
    c.pool-in-loop-i.ensures)) (c.loop-i.invariant.tried h.0 h.1 h.2).below

pub returns-in_default-clause-own : goal.returns-in_default-clause-own
returns-in_default-clause-own c = (c.loop-i.invariant.same, c.loop-i.invariant.own)

pub returns-in_default-clause-did : goal.returns-in_default-clause-did
returns-in_default-clause-did c = λ t x held. let tried = c.loop-i.invariant.tried t x held in
    record { tries = tried.tries; count = tried.count }

pub returns-in_default-clause-fits : goal.returns-in_default-clause-fits
returns-in_default-clause-fits c = c.loop-i.invariant.fits

pub try_other-requires-clause-own : goal.try_other-requires-clause-own
try_other-requires-clause-own c = (c.requires.own.0, c.loop-i.invariant.own)

pub try_other-requires-clause-there : goal.try_other-requires-clause-there
try_other-requires-clause-there c = let h = c.requires.pool in
    subst (λ n. c.in-Some.block < n)
    (frames_counted c.args.pass.now c.loop-i.pass h.1 c.loop-i.last
    (c.loop-i.invariant.tried h.0 h.1 h.2) h.0 h.2 c.pool-in-loop-i.result.now
    c.pool-in-loop-i.ensures
    c.loop-i.invariant.fits) c.in-Some.ensures.found.below

pub try_other-requires-clause-known : goal.try_other-requires-clause-known
try_other-requires-clause-known c = let h = c.requires.pool in
    (c.loop-i.invariant.tried h.0 h.1 h.2).tries.does.known

pub try_other-requires-clause-room : goal.try_other-requires-clause-room
try_other-requires-clause-room c = let h = c.requires.pool in
    let same = (c.loop-i.invariant.tried h.0 h.1 h.2).count in let room = c.requires.room in
    omega (arith, same, room)

pub returns-then-try_other-clause-own : goal.returns-then-try_other-clause-own
returns-then-try_other-clause-own c = (
  passes_both c.args.pass.now c.loop-i.pass c.try_other.new.pass c.loop-i.invariant.same
      c.try_other.ensures.own.0,
  c.try_other.ensures.own.1,
)

pub returns-then-try_other-clause-did : goal.returns-then-try_other-clause-did
returns-then-try_other-clause-did c = λ t x held.
    takes_next c.args.pass.now c.loop-i.pass x c.loop-i.last (c.loop-i.invariant.tried t x held)
    c.try_other.new.pass c.in-Some.block
    (subst (λ xs. IsNext xs c.loop-i.last c.in-Some.block) (ages_read c.args.pass.now c.loop-i.pass
    x c.loop-i.last
    (c.loop-i.invariant.tried t x held) t held c.pool-in-loop-i.result.now c.pool-in-loop-i.ensures)
    c.in-Some.ensures.found) c.if-try_other.ensures.did

pub loop-i-preserved : goal.loop-i-preserved
loop-i-preserved c = record {
  same = passes_both c.args.pass.now c.loop-i.pass c.try_other.new.pass c.loop-i.invariant.same
      c.try_other.ensures.own.0;
  own = c.try_other.ensures.own.1;
  fits = c.try_other.ensures.fits;
  tried = λ t x held. tries_next c.args.pass.now c.loop-i.pass x c.loop-i.last
      (c.loop-i.invariant.tried t x held) c.try_other.new.pass c.in-Some.block
      (subst (λ xs. IsNext xs c.loop-i.last c.in-Some.block) (ages_read c.args.pass.now
      c.loop-i.pass x c.loop-i.last
      (c.loop-i.invariant.tried t x held) t held c.pool-in-loop-i.result.now
      c.pool-in-loop-i.ensures)
      c.in-Some.ensures.found) c.if-try_other.ensures.did;
}

pub returns-clause-own : goal.returns-clause-own
returns-clause-own c = (c.loop-i.invariant.same, c.loop-i.invariant.own)

pub returns-clause-did : goal.returns-clause-did
returns-clause-did c = λ t x held. let tried = c.loop-i.invariant.tried t x held in
    record { tries = tried.tries; count = tried.count }

pub returns-clause-fits : goal.returns-clause-fits
returns-clause-fits c = c.loop-i.invariant.fits
