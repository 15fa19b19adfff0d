use Rattle.std.proofs.Common.{Err, ap, ◌∙◌, ◌≡◌, length, sym, subst}
use Rattle.latch_law.specs.declared.knows.Terms.{Terms}
use Rattle.latch_space.proofs.Pointwise.{none_known}
use Rattle.index_law.specs.Shape.{Shape}
use Rattle.forest_law.specs.State.{fields_for}
use Rattle.engine_tests.proofs.errands.find_room.Goals as goal

pub make_room-room-requires-clause-fields : goal.make_room-room-requires-clause-fields
make_room-room-requires-clause-fields g c = let call = c.args.call.now in subst
    (λ (t : Terms Shape). length call.key.now.tuple ≡ fields_for t.shape call.index)
    (sym c.requires.own.1) call.fits

pub make_room-room-requires-clause-known : goal.make_room-room-requires-clause-known
make_room-room-requires-clause-known g c = none_known c.args.pass.now c.requires.nothing

pub returns-in-Ok-clause-nothing : goal.returns-in-Ok-clause-nothing
returns-in-Ok-clause-nothing g c = c.in-Ok.ensures.ok.silently.grows.count ∙ c.requires.nothing

pub returns-in-SpaceFull-clause-nothing : goal.returns-in-SpaceFull-clause-nothing
returns-in-SpaceFull-clause-nothing g c =
    (c.make_room-room.ensures.full (c.in-Err.is ∙ ap Err c.in-SpaceFull.is)).grows.count
    ∙ c.requires.nothing

pub returns-in-NoMemory-clause-nothing : goal.returns-in-NoMemory-clause-nothing
returns-in-NoMemory-clause-nothing g c =
    (c.make_room-room.ensures.memory (c.in-Err.is ∙ ap Err c.in-NoMemory.is)).grows.count
    ∙ c.requires.nothing
