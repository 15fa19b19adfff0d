use Rattle.std.proofs.Common.{sym, subst, arith}
use Rattle.latch_space.proofs.Pointwise.{lacks_each, none_known}
use Rattle.search_info.specs.Passes.{HasUnique}
use Rattle.forest_law.specs.Numbers.{pool_id, frame_id, part_id}
use Rattle.forest_law.specs.State.{fields_for}
use Rattle.forest_world.specs.Held.{shape_of_pass}
use Rattle.buffer_pool.proofs.SpaceLemmas.{objects_of}
use Rattle.index_engine.proofs.LearnerLemmas.{has_unique}
use Rattle.index_engine.proofs.engine.Engine.search.Goals as goal

pub search_key-requires-clause-unique : goal.search_key-requires-clause-unique
search_key-requires-clause-unique g c = let engine = c.args.self.now in
    let own = c.requires.own in let below = c.requires.index in let lists = engine.forest.lists in
    subst (λ t. HasUnique engine.learner c.args.index (fields_for t.shape c.args.index))
    (sym own.1) (has_unique engine.learner engine.space.terms.shape c.args.index engine.learns
    (omega (arith, below, lists)))

pub search_key-requires-clause-frames : goal.search_key-requires-clause-frames
search_key-requires-clause-frames g c = let p = c.args.pass.now in
    let objects = objects_of c.args.self.now.space p c.args.self.now.forest c.requires.own in
    λ b below apart. lacks_each p (frame_id (shape_of_pass p) b) c.requires.nothing
    (omega (arith, objects, below))

pub search_key-requires-clause-tables : goal.search_key-requires-clause-tables
search_key-requires-clause-tables g c = let p = c.args.pass.now in
    let objects = objects_of c.args.self.now.space p c.args.self.now.forest c.requires.own in
    record {
      pool = lacks_each p pool_id c.requires.nothing (omega (arith, objects));
      parts = λ k below. lacks_each p (part_id (shape_of_pass p) k) c.requires.nothing
          (omega (arith, objects, below));
    }

pub search_key-requires-clause-known : goal.search_key-requires-clause-known
search_key-requires-clause-known g c = none_known c.args.pass.now c.requires.nothing
