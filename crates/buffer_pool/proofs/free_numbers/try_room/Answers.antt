use Rattle.std.proofs.Common.{◌<◌, ◌∙◌, length, sym, ap, subst, arith}
use Rattle.latch_space.specs.Passes.{view}
use Rattle.forest_law.specs.declared.objects.Object.TheVariants as object
use Rattle.forest_law.specs.declared.objects.Pool.{Pool}
use Rattle.forest_law.specs.Numbers.{pool_id}
use Rattle.buffer_pool.specs.NewPages.{IsLowestFree, HasNoneFree}
use Rattle.buffer_pool.proofs.AgainLemmas.{passes_both}
use Rattle.buffer_pool.proofs.CallLemmas.{pool_has}
use Rattle.buffer_pool.proofs.FreeLemmas.{found_is, finds_none, holds_free}
use Rattle.buffer_pool.proofs.GiveLemmas.{first, first_shape, pool_taken, parts_then, vain_gives}
use Rattle.buffer_pool.proofs.KnownLemmas.{places_counted}
use Rattle.buffer_pool.proofs.free_numbers.try_room.Goals as goal

pub lowest_free-requires : goal.lowest_free-requires
lowest_free-requires g c = let p1 = c.take_pool.new.pass in
    let took = c.take_pool.ensures.took in let f = c.take_pool.ensures.fits in
    ap (λ z. length z.place.items)
    (found_is c.args.pass.now p1 c.requires.known c.requires.tables took c.pool.result.now
    c.pool.ensures)
    ∙ (places_counted f.whole f.is_lawful (view p1) f.fits (object.Pool took.pool) took.pool
    (pool_taken c.args.pass.now p1 c.requires.known c.requires.tables took)
    ∙ (ap (λ t. t.shape.pages) c.take_pool.ensures.own.1.1
    ∙ sym (c.pages-pages.ensures ∙ ap (λ s. s.pages) c.shape.ensures)))

pub say_full-requires-clause-pool : goal.say_full-requires-clause-pool
say_full-requires-clause-pool g c = let took = c.take_pool.ensures.took in (
  took.pool,
  took.has,
  subst HasNoneFree (c.pool.ensures took.pool took.pool took.has) c.in_default.ensures.none,
)

pub give_pool_back-requires-clause-held : goal.give_pool_back-requires-clause-held
give_pool_back-requires-clause-held g c = let took = c.take_pool.ensures.took in
    let full = c.say_full.ensures.full in (
      took.pool,
      pool_has c.say_full.new.pass full.does.known (object.Pool took.pool) took.pool
          (full.does.rest pool_id tt
          ∙ pool_taken c.args.pass.now c.take_pool.new.pass c.requires.known c.requires.tables
          took),
    )

pub returns-in_default-clause-did : goal.returns-in_default-clause-did
returns-in_default-clause-did g c = let took = c.take_pool.ensures.took in
    finds_none c.args.pass.now c.take_pool.new.pass c.requires.known c.requires.tables took
    c.say_full.new.pass c.give_pool_back.new.pass c.args.index c.say_full.ensures.full
    (subst HasNoneFree (c.pool.ensures took.pool took.pool took.has) c.in_default.ensures.none)
    c.give_pool_back.ensures.gave

pub make_room-requires-clause-parts : goal.make_room-requires-clause-parts
make_room-requires-clause-parts g c = parts_then c.args.pass.now c.take_pool.new.pass
    c.requires.known c.requires.tables c.take_pool.ensures.took

pub give_pool_back-requires-in_default-make_room-clause-held :
    goal.give_pool_back-requires-in_default-make_room-clause-held
give_pool_back-requires-in_default-make_room-clause-held g c = let p1 = c.take_pool.new.pass in
    let took = c.take_pool.ensures.took in
    let taken = pool_taken c.args.pass.now p1 c.requires.known c.requires.tables took in
    let vain = c.in_default-make_room.ensures.did (object.Pool took.pool) took.pool taken in (
      took.pool,
      pool_has c.make_room.new.pass vain.tries.does.known (object.Pool took.pool) took.pool
          (vain.tries.does.rest pool_id tt ∙ taken),
    )

pub returns-in_default-make_room-clause-did : goal.returns-in_default-make_room-clause-did
returns-in_default-make_room-clause-did g c = let p1 = c.take_pool.new.pass in
    let took = c.take_pool.ensures.took in
    let taken = pool_taken c.args.pass.now p1 c.requires.known c.requires.tables took in
    vain_gives c.args.pass.now p1 c.requires.known c.requires.tables took c.make_room.new.pass
    c.give_pool_back-in_default-make_room.new.pass
    c.give_pool_back-in_default-make_room.ensures.gave 0
    (c.in_default-make_room.ensures.did (object.Pool took.pool) took.pool taken)

pub returns-clause-did : goal.returns-clause-did
returns-clause-did g c = let p1 = c.take_pool.new.pass in
    let took = c.take_pool.ensures.took in
    let taken = pool_taken c.args.pass.now p1 c.requires.known c.requires.tables took in
    let is = found_is c.args.pass.now p1 c.requires.known c.requires.tables took c.pool.result.now
    c.pool.ensures in
    holds_free c.args.pass.now p1 c.requires.known c.requires.tables took
    c.in-Some.number c.in-Some-make_room.block c.make_room.new.pass
    c.take_pool.ensures.fits c.in-Some.ensures.named
    (subst (λ (z : Pool). IsLowestFree z c.in-Some.number) is c.in-Some.ensures.found)
    (c.in-Some-make_room.ensures.did (object.Pool took.pool) took.pool taken)

pub take_pool-requires-clause-own : goal.take_pool-requires-clause-own
take_pool-requires-clause-own g c = c.requires.own.1

pub take_pool-requires-clause-lacks : goal.take_pool-requires-clause-lacks
take_pool-requires-clause-lacks g c = c.requires.tables.pool

pub take_pool-requires-clause-room : goal.take_pool-requires-clause-room
take_pool-requires-clause-room g c = let room = c.requires.room in omega (arith, room)

pub say_full-requires-clause-own : goal.say_full-requires-clause-own
say_full-requires-clause-own g c = (c.requires.own.0, c.take_pool.ensures.own.1)

pub say_full-requires-clause-index : goal.say_full-requires-clause-index
say_full-requires-clause-index g c = subst (λ s. c.args.index < s.indexes)
    (sym (first_shape c.args.pass.now c.take_pool.new.pass c.requires.known c.requires.tables
    c.take_pool.ensures.took)) c.requires.index

pub say_full-requires-clause-known : goal.say_full-requires-clause-known
say_full-requires-clause-known g c = (first c.args.pass.now c.take_pool.new.pass c.requires.known c.requires.tables
    c.take_pool.ensures.took).known

pub make_room-requires-clause-own : goal.make_room-requires-clause-own
make_room-requires-clause-own g c = (c.requires.own.0, c.take_pool.ensures.own.1)

pub make_room-requires-clause-known : goal.make_room-requires-clause-known
make_room-requires-clause-known g c = (first c.args.pass.now c.take_pool.new.pass c.requires.known c.requires.tables
    c.take_pool.ensures.took).known

pub make_room-requires-clause-pool : goal.make_room-requires-clause-pool
make_room-requires-clause-pool g c = let took = c.take_pool.ensures.took in (
  object.Pool took.pool,
  took.pool,
  pool_taken c.args.pass.now c.take_pool.new.pass c.requires.known c.requires.tables took,
)

pub make_room-requires-clause-room : goal.make_room-requires-clause-room
make_room-requires-clause-room g c = let more = c.take_pool.ensures.took.count in
    let room = c.requires.room in omega (arith, more, room)

pub returns-in_default-clause-own : goal.returns-in_default-clause-own
returns-in_default-clause-own g c = let p = c.args.pass.now in let p1 = c.take_pool.new.pass in (
  passes_both p p1 c.give_pool_back.new.pass c.take_pool.ensures.own.0
      (passes_both p1 c.say_full.new.pass c.give_pool_back.new.pass c.say_full.ensures.own.0
      c.give_pool_back.ensures.own.0),
  c.give_pool_back.ensures.own.1,
)

pub returns-in_default-make_room-clause-own : goal.returns-in_default-make_room-clause-own
returns-in_default-make_room-clause-own g c = let p = c.args.pass.now in
    let p1 = c.take_pool.new.pass in let gave = c.give_pool_back-in_default-make_room in (
      passes_both p p1 gave.new.pass c.take_pool.ensures.own.0
          (passes_both p1 c.make_room.new.pass gave.new.pass c.make_room.ensures.own.0
          gave.ensures.own.0),
      gave.ensures.own.1,
    )

pub returns-clause-own : goal.returns-clause-own
returns-clause-own g c = (
  passes_both c.args.pass.now c.take_pool.new.pass c.make_room.new.pass
      c.take_pool.ensures.own.0 c.make_room.ensures.own.0,
  c.make_room.ensures.own.1,
)
