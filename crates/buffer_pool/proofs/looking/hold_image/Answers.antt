use Rattle.std.proofs.Common.{◌≡◌, subst}
use Rattle.forest_law.specs.declared.objects.Where.TheVariants.{Image}
use Rattle.forest_law.specs.State.{where_at}
use Rattle.buffer_pool.proofs.AgainLemmas.{passes_both}
use Rattle.buffer_pool.proofs.LookLemmas.{one_pool, room_restores, holds_restored}
use Rattle.buffer_pool.proofs.looking.hold_image.Goals as goal

pub restore-requires-clause-may : goal.restore-requires-clause-may
restore-requires-clause-may g c = let h = c.requires.pool in
    room_restores c.args.pass.now c.make_room.new.pass h.0 h.1 c.args.page c.in-Some.block
    (c.in-Some.ensures.did h.0 h.1 h.2) h.3

pub returns-clause-did : goal.returns-clause-did
returns-clause-did g c = λ t x held. let room = c.in-Some.ensures.did t x held in
    let h = c.requires.pool in
    holds_restored c.args.pass.now c.make_room.new.pass t x c.args.page c.in-Some.block room
    (subst (λ z. where_at z.place.items c.args.page ≡ Image)
    (one_pool c.args.pass.now h.0 t h.1 x h.2 held) h.3)
    c.restore.new.pass
    (c.restore.ensures.restored t room.pool room.frame
    (record { known = room.tries.does.known; pool = room.knew; frame = room.knows }))

pub returns-clause-own : goal.returns-clause-own
returns-clause-own g c = (
  passes_both c.args.pass.now c.make_room.new.pass c.restore.new.pass c.make_room.ensures.own.0
      c.restore.ensures.own.0,
  c.restore.ensures.own.1,
)

pub returns-clause-fits : goal.returns-clause-fits
returns-clause-fits g c = c.restore.ensures.fits
