use Rattle.std.proofs.Common.{Err, ap, ◌∙◌, ◌≡◌, length, sym, subst}
use Rattle.latch_law.specs.declared.knows.Terms.{Terms}
use Rattle.latch_space.specs.Passes.{view}
use Rattle.latch_space.proofs.Pointwise.{none_known}
use Rattle.index_law.specs.Shape.{Shape}
use Rattle.forest_law.specs.State.{fields_for}
use Rattle.call_law.proofs.TraceLemmas.{quiet_of}
use Rattle.buffer_pool.proofs.AgainLemmas.{passes_both}
use Rattle.index_engine.specs.Writes.{write_asked}
use Rattle.index_engine.proofs.RoomLemmas.{room_then_word, write_asks, knows_short}
use Rattle.index_engine.proofs.growing.grow.Goals as goal

pub returns-in-Ok-clause-ok : goal.returns-in-Ok-clause-ok
returns-in-Ok-clause-ok g c = let made = c.in-Ok.ensures.ok.silently in
    quiet_of (view c.args.pass.now) (view c.make_room-room.new.pass) c.args.call.now.index
    made.added made.grows.adds made.silent

pub say_space_full-requires-clause-short : goal.say_space_full-requires-clause-short
say_space_full-requires-clause-short g c =
    knows_short c.args.pass.now c.make_room-room.new.pass c.args.call.now.index
    (c.make_room-room.ensures.full (c.in-Err.is ∙ ap Err c.in-SpaceFull.is))

pub returns-in-SpaceFull-clause-ok : goal.returns-in-SpaceFull-clause-ok
returns-in-SpaceFull-clause-ok g c = let call = c.args.call.now in
    let key = call.key.now.tuple in let value = c.args.value.now in
    room_then_word c.args.pass.now c.make_room-room.new.pass c.say_space_full.new.pass call.index
    (write_asked c.args.write key value) call.found c.say_space_full.result
    (write_asks c.args.write key value)
    (c.make_room-room.ensures.full (c.in-Err.is ∙ ap Err c.in-SpaceFull.is))
    c.say_space_full.ensures.did c.say_space_full.ensures.told

pub returns-in-SpaceFull-clause-own : goal.returns-in-SpaceFull-clause-own
returns-in-SpaceFull-clause-own g c = (
  passes_both c.args.pass.now c.make_room-room.new.pass c.say_space_full.new.pass
      c.make_room-room.ensures.own.0 c.say_space_full.ensures.own.0,
  c.say_space_full.ensures.own.1,
)

pub returns-in-SpaceFull-clause-nothing : goal.returns-in-SpaceFull-clause-nothing
returns-in-SpaceFull-clause-nothing g c = c.say_space_full.ensures.kept.count
    ∙ ((c.make_room-room.ensures.full (c.in-Err.is ∙ ap Err c.in-SpaceFull.is)).grows.count
    ∙ c.requires.nothing)

pub returns-in-NoMemory-clause-nothing : goal.returns-in-NoMemory-clause-nothing
returns-in-NoMemory-clause-nothing g c = (c.make_room-room.ensures.memory (c.in-Err.is ∙ ap Err c.in-NoMemory.is)).grows.count
    ∙ c.requires.nothing

pub returns-in-NoMemory-clause-err : goal.returns-in-NoMemory-clause-err
returns-in-NoMemory-clause-err g c = let made = c.make_room-room.ensures.memory (c.in-Err.is ∙ ap Err c.in-NoMemory.is) in
    quiet_of (view c.args.pass.now) (view c.make_room-room.new.pass) c.args.call.now.index
    made.added made.grows.adds made.silent

pub make_room-room-requires-clause-fields : goal.make_room-room-requires-clause-fields
make_room-room-requires-clause-fields g c = let call = c.args.call.now in subst
    (λ (t : Terms Shape). length call.key.now.tuple ≡ fields_for t.shape call.index)
    (sym c.requires.own.1) call.fits

pub make_room-room-requires-clause-known : goal.make_room-room-requires-clause-known
make_room-room-requires-clause-known g c = none_known c.args.pass.now c.requires.nothing

pub returns-in-Ok-clause-nothing : goal.returns-in-Ok-clause-nothing
returns-in-Ok-clause-nothing g c = c.in-Ok.ensures.ok.silently.grows.count ∙ c.requires.nothing
