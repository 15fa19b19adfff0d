use Rattle.std.proofs.Common.{ap, arith}
use Rattle.latch_space.proofs.Pointwise.{sees_each}
use Rattle.forest_law.specs.declared.objects.Object.TheVariants as object
use Rattle.index_law.specs.Meanings.{change_lent, change_by}
use Rattle.buffer_pool.proofs.SpaceLemmas.{objects_of, held_below}
use Rattle.engine_law.specs.Says.{columns_by}
use Rattle.leaf_changes.proofs.CommitLemmas.{ahead_ends}
use Rattle.leaf_changes.proofs.FollowLemmas.{next_values, next_at, next_else, next_suits, leaf_follows}
use Rattle.leaf_changes.proofs.KeptLemmas.{whole_kept}
use Rattle.leaf_changes.proofs.tree_call.TreeCall.write_ahead.Goals as goal

pub commit_ahead-requires-clause-whole : goal.commit_ahead-requires-clause-whole
commit_ahead-requires-clause-whole g c = let can = c.requires.held in
    next_suits c.args.pass.now g.X.Becomes.block can.index can.known can.now g.X.Becomes.leaf
    g.X.Becomes.leaf can.holds.has can.hash

pub commit_ahead-requires-clause-rule : goal.commit_ahead-requires-clause-rule
commit_ahead-requires-clause-rule g c = let can = c.requires.held in let call = c.args.self.now in
    let p = c.args.pass.now in let b = g.X.Becomes.block in let key = call.key.now.tuple in
    let next = g.X.Becomes.leaf in
    let objects = objects_of call.space.now p call.forest c.requires.own in
    leaf_follows p b call.index key can.known next can.now (change_lent c.args.change) can.holds
    can.about can.makes (next_values p b next)
    (next_at p b can.known can.now next can.holds.has)
    (next_else p b next) c.blocks_ask_the_same.ensures can.index can.hash
    (held_below p b (object.Frame can.known) (object.Frame can.now) can.holds.has objects)
    (change_by c.deed-deed.result) (ap (λ d. d.change) c.deed-deed.ensures)

pub returns-clause-did : goal.returns-clause-did
returns-clause-did g c = let can = c.requires.held in let call = c.args.self.now in
    let p = c.args.pass.now in let b = g.X.Becomes.block in let key = call.key.now.tuple in
    let next = g.X.Becomes.leaf in
    let indexes = ap (λ z. z.indexes) c.requires.own.1 in let below = call.there in
    let lists = call.forest.lists in
    let room = sees_each p call.index (omega (arith, indexes, lists, below)) in
    ahead_ends p c.commit_ahead.new.pass call.index (change_lent c.args.change) (columns_by call.found)
    call.found.stands
    (change_by c.deed-deed.result) room c.deed-deed.ensures b next (next_values p b next)
    (next_at p b can.known can.now next can.holds.has) (next_else p b next)
    (whole_kept p can.index b can.known next can.now next can.holds.has can.hash)
    c.commit_ahead.result c.commit_ahead.ensures.did c.commit_ahead.ensures.hands

pub returns-clause-own : goal.returns-clause-own
returns-clause-own g c = c.commit_ahead.ensures.own
