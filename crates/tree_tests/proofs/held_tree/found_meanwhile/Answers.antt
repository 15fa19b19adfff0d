use Rattle.std.proofs.Common.{ap, arith}
use Rattle.latch_space.proofs.Pointwise.{lacks_each}
use Rattle.forest_law.specs.Numbers.{tree_id, frame_id}
use Rattle.forest_world.specs.Held.{shape_of_pass}
use Rattle.buffer_pool.proofs.SpaceLemmas.{objects_of}
use Rattle.tree_tests.proofs.EmptyLemmas.{none_has_table}
use Rattle.tree_tests.proofs.held_tree.found_meanwhile.Goals as goal

pub take_tree-requires-clause-lacks : goal.take_tree-requires-clause-lacks
take_tree-requires-clause-lacks g c = let p = c.args.other.now in
    let objects = objects_of c.args.space.now p c.requires.forest c.requires.other in
    let there = ap (λ t. t.shape.indexes) c.requires.other.1 in
    lacks_each p (tree_id 0) c.requires.none (omega (arith, objects, there, c.requires.there))

pub descend-leaf-requires-clause-frames : goal.descend-leaf-requires-clause-frames
descend-leaf-requires-clause-frames g c = let p = c.args.pass.now in
    let objects = objects_of c.args.space.now p c.requires.forest c.requires.own in
    λ b below apart. lacks_each p (frame_id (shape_of_pass p) b) c.requires.nothing
    (omega (arith, objects, below))

pub descend-leaf-requires-clause-tables : goal.descend-leaf-requires-clause-tables
descend-leaf-requires-clause-tables g c = none_has_table c.args.space.now c.args.pass.now
    c.requires.forest c.requires.own c.requires.nothing
