use Rattle.std.proofs.Common.{ap, arith, refl}
use Rattle.latch_space.proofs.Pointwise.{sees_each}
use Rattle.latch_space.specs.Passes.{values}
use Rattle.forest_law.specs.declared.objects.Object.TheVariants as object
use Rattle.index_law.specs.Meanings.{change_lent, change_by}
use Rattle.buffer_pool.proofs.SpaceLemmas.{objects_of, held_below}
use Rattle.engine_law.specs.Says.{columns_by}
use Rattle.leaf_changes.proofs.CommitLemmas.{commit_ends}
use Rattle.leaf_changes.proofs.FollowLemmas.{leaf_follows}
use Rattle.leaf_changes.proofs.KeptLemmas.{whole_kept}
use Rattle.leaf_changes.proofs.tree_call.TreeCall.commit.Goals as goal

pub commit-requires-clause-whole : goal.commit-requires-clause-whole
commit-requires-clause-whole g c = let can = c.requires.held in
    whole_kept c.args.pass.now can.index can.block can.known can.made can.made can.made
    can.holds.has can.hash

pub commit-requires-clause-rule : goal.commit-requires-clause-rule
commit-requires-clause-rule g c = let can = c.requires.held in let call = c.args.self.now in
    let p = c.args.pass.now in
    let objects = objects_of call.space.now p call.forest c.requires.own in
    leaf_follows p can.block call.index call.key.now.tuple can.known can.made can.made
    (change_lent c.args.change) can.holds can.about can.makes (values p) can.holds.has.value
    (λ j differs. refl) c.blocks_ask_the_same.ensures can.index can.hash
    (held_below p can.block (object.Frame can.known) (object.Frame can.made) can.holds.has objects)
    (change_by c.deed.result) (ap (λ d. d.change) c.deed.ensures)

pub returns-clause-did : goal.returns-clause-did
returns-clause-did g c = let call = c.args.self.now in let p = c.args.pass.now in
    let can = c.requires.held in
    let indexes = ap (λ z. z.indexes) c.requires.own.1 in let below = call.there in
    let lists = call.forest.lists in
    let room = sees_each p call.index (omega (arith, indexes, lists, below)) in
    commit_ends p c.commit.new.pass call.index (change_lent c.args.change) (columns_by call.found)
    call.found.stands
    (whole_kept p can.index can.block can.known can.made can.made can.made can.holds.has can.hash)
    (change_by c.deed.result) room c.deed.ensures c.commit.result c.commit.ensures.did
    c.commit.ensures.hands

pub returns-clause-own : goal.returns-clause-own
returns-clause-own g c = c.commit.ensures.own
