use Rattle.forest_law.specs.declared.objects.Object.TheVariants as object
use Rattle.buffer_pool.proofs.SpaceLemmas.{objects_of, held_below}
use Rattle.leaf_changes.proofs.KeptLemmas.{whole_kept}
use Rattle.leaf_changes.proofs.SettleLemmas.{settle_follows, settles}
use Rattle.leaf_changes.proofs.tree_call.TreeCall.settle.Goals as goal

pub settle-requires-clause-whole : goal.settle-requires-clause-whole
settle-requires-clause-whole g c = let held = c.requires.held in
    whole_kept c.args.pass.now held.index c.args.block held.known held.now held.now held.now held.has
    held.hash

pub settle-requires-clause-rule : goal.settle-requires-clause-rule
settle-requires-clause-rule g c = let held = c.requires.held in let call = c.args.self.now in
    let p = c.args.pass.now in
    let objects = objects_of call.space.now p call.forest c.requires.own in
    settle_follows c.blocks_ask_the_same.ensures p c.args.block held
    (held_below p c.args.block (object.Frame held.known) (object.Frame held.now) held.has objects)

pub returns-clause-did : goal.returns-clause-did
returns-clause-did g c = let held = c.requires.held in let call = c.args.self.now in
    let p = c.args.pass.now in
    let objects = objects_of call.space.now p call.forest c.requires.own in
    settles c.blocks_ask_the_same.ensures p c.args.block held
    (held_below p c.args.block (object.Frame held.known) (object.Frame held.now) held.has objects)
    c.settle.new.pass c.settle.ensures.did call.index

pub returns-clause-own : goal.returns-clause-own
returns-clause-own g c = c.settle.ensures.own
