use Rattle.std.proofs.Common.{ap, arith}
use Rattle.buffer_pool.proofs.SpaceLemmas.{objects_of}
use Rattle.buffer_pool.proofs.numbers.tree_number.Goals as goal

pub tree_id-requires : goal.tree_id-requires
tree_id-requires c = let own = c.requires.own in let space = c.args.space.now in
    let there = c.requires.there in
    let objects = objects_of space c.args.pass.now own.0 own.1 in
    let same = ap (λ t. t.objects) own.1.1 in
    let few = space.small.1 in
    omega (arith, there, objects, same, few)
