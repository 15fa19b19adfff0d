use Rattle.std.proofs.Common.{arith}
use Rattle.latch_space.proofs.Pointwise.{lacks_each}
use Rattle.forest_law.specs.Numbers.{frame_id}
use Rattle.forest_world.specs.Held.{shape_of_pass}
use Rattle.buffer_pool.proofs.SpaceLemmas.{objects_of}
use Rattle.tree_tests.proofs.EmptyLemmas.{none_has_table}
use Rattle.tree_tests.proofs.guesses.cause_of.Goals as goal

pub guess-requires-clause-frames : goal.guess-requires-clause-frames
guess-requires-clause-frames g c = let p = c.args.pass.now in
    let objects = objects_of c.args.space.now p c.requires.forest c.requires.own in
    λ b below apart. lacks_each p (frame_id (shape_of_pass p) b) c.requires.nothing
    (omega (arith, objects, below))

pub guess-requires-clause-tables : goal.guess-requires-clause-tables
guess-requires-clause-tables g c = none_has_table c.args.space.now c.args.pass.now
    c.requires.forest c.requires.own c.requires.nothing
