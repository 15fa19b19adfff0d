use Rattle.std.proofs.Common.{ap, ◌∙◌, sym, arith}
use Rattle.latch_space.proofs.Pointwise.{lacks_each}
use Rattle.forest_law.specs.Numbers.{pool_id, frame_id, part_id}
use Rattle.forest_law.specs.State.{fields_for}
use Rattle.forest_world.specs.Held.{shape_of_pass}
use Rattle.buffer_pool.proofs.SpaceLemmas.{objects_of}
use Rattle.index_engine.specs.Traces.{AreWayTo}
use Rattle.index_engine.proofs.FreshLemmas.{fresh_leaf}
use Rattle.index_engine.proofs.WayLemmas.{by_way}
use Rattle.index_engine.proofs.writing.hold_leaf.Goals as goal

pub descend-requires-clause-frames : goal.descend-requires-clause-frames
descend-requires-clause-frames g c = let call = c.args.call.now in let p = c.args.pass.now in
    let objects = objects_of call.space.now p call.forest c.requires.own in
    λ b below apart. lacks_each p (frame_id (shape_of_pass p) b) c.requires.nothing
    (omega (arith, objects, below))

pub descend-requires-clause-tables : goal.descend-requires-clause-tables
descend-requires-clause-tables g c = let call = c.args.call.now in let p = c.args.pass.now in
    let objects = objects_of call.space.now p call.forest c.requires.own in
    record {
      pool = lacks_each p pool_id c.requires.nothing (omega (arith, objects));
      parts = λ k below. lacks_each p (part_id (shape_of_pass p) k) c.requires.nothing
          (omega (arith, objects, below));
    }

pub returns-clause-went : goal.returns-clause-went
returns-clause-went g c = let call = c.args.call.now in
    by_way c.args.pass.now call.index call.key.now.tuple c.descend.result c.descend.new.pass
    c.descend.ensures.went

pub returns-clause-held : goal.returns-clause-held
returns-clause-held g c = let call = c.args.call.now in let p = c.args.pass.now in
    let key = call.key.now.tuple in
    fresh_leaf (AreWayTo (shape_of_pass p) call.index key) p c.descend.new.pass call.index key
    c.descend.result
    (by_way p call.index key c.descend.result c.descend.new.pass c.descend.ensures.went)
    c.requires.nothing (call.fits ∙ ap (λ t. fields_for t.shape call.index) (sym c.requires.own.1))
    (λ k below. lacks_each p (part_id (shape_of_pass p) k) c.requires.nothing
    (let objects = objects_of call.space.now p call.forest c.requires.own in
    omega (arith, objects, below)))
