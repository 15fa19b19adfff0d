use Rattle.std.proofs.Common.{ap, arith}
use Rattle.latch_space.proofs.Pointwise.{lacks_each}
use Rattle.forest_law.specs.Numbers.{part_id}
use Rattle.forest_world.specs.Held.{shape_of_pass}
use Rattle.buffer_pool.proofs.SpaceLemmas.{objects_of}
use Rattle.tree_tests.proofs.guesses.cause_meanwhile.Goals as goal

pub try_part-requires-clause-lacks : goal.try_part-requires-clause-lacks
try_part-requires-clause-lacks g c = let p = c.args.other.now in
    let objects = objects_of c.args.space.now p c.requires.forest c.requires.other in
    let there = ap (λ t. t.shape.parts) c.requires.other.1 in
    lacks_each p (part_id (shape_of_pass p) 0) c.requires.none
    (omega (arith, objects, there, c.requires.there))
