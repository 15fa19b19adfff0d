use Rattle.std.proofs.Common.{ap, ◌∙◌, sym}
use Rattle.forest_law.specs.State.{fields_for}
use Rattle.forest_world.specs.Held.{shape_of_pass}
use Rattle.index_engine.specs.Traces.{AreWayTo}
use Rattle.index_engine.proofs.FreshLemmas.{fresh_leaf}
use Rattle.index_engine.proofs.WayLemmas.{by_way}
use Rattle.engine_tests.proofs.EmptyLemmas.{none_has_frame, none_has_table}
use Rattle.engine_tests.proofs.plot.hold_leaf.Goals as goal

pub descend-requires-clause-frames : goal.descend-requires-clause-frames
descend-requires-clause-frames g c = let call = c.args.call.now in
    none_has_frame call.space.now c.args.pass.now call.forest c.requires.own c.requires.nothing

pub descend-requires-clause-tables : goal.descend-requires-clause-tables
descend-requires-clause-tables g c = let call = c.args.call.now in
    none_has_table call.space.now c.args.pass.now call.forest c.requires.own c.requires.nothing

pub returns-clause-held : goal.returns-clause-held
returns-clause-held g c = let call = c.args.call.now in let p = c.args.pass.now in
    let key = call.key.now.tuple in
    fresh_leaf (AreWayTo (shape_of_pass p) call.index key) p c.descend.new.pass call.index key
    c.descend.result
    (by_way p call.index key c.descend.result c.descend.new.pass c.descend.ensures.went)
    c.requires.nothing (call.fits ∙ ap (λ t. fields_for t.shape call.index) (sym c.requires.own.1))
    (none_has_table call.space.now p call.forest c.requires.own c.requires.nothing).parts
