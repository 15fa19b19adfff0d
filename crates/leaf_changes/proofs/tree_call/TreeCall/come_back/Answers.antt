use Rattle.buffer_pool.proofs.AgainLemmas.{passes_both}
use Rattle.leaf_changes.proofs.BackLemmas.{comes, rests_again, is_back}
use Rattle.leaf_changes.proofs.tree_call.TreeCall.come_back.Goals as goal

pub row_came-requires-clause-held : goal.row_came-requires-clause-held
row_came-requires-clause-held g c =
    comes c.args.pass.now c.args.block c.args.place c.requires.held

pub settle-requires-clause-held : goal.settle-requires-clause-held
settle-requires-clause-held g c = let held = c.requires.held in
    rests_again c.args.pass.now c.args.block c.args.place held c.row_came.new.pass
    (c.row_came.ensures.kept held.index held.known held.now held.has held.hash)

pub returns-clause-back : goal.returns-clause-back
returns-clause-back g c = let held = c.requires.held in
    is_back c.args.pass.now c.args.block c.args.place held c.row_came.new.pass
    (c.row_came.ensures.kept held.index held.known held.now held.has held.hash)
    c.args.self.now.index c.settle.new.pass c.settle.ensures.did

pub returns-clause-own : goal.returns-clause-own
returns-clause-own g c = (
  passes_both c.args.pass.now c.row_came.new.pass c.settle.new.pass c.row_came.ensures.own.0
      c.settle.ensures.own.0,
  c.settle.ensures.own.1,
)
