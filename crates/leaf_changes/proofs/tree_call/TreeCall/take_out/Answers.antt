use Rattle.buffer_pool.proofs.AgainLemmas.{passes_both}
use Rattle.leaf_changes.proofs.PutLemmas.{goes_again, put_then, at_rest, taken_out}
use Rattle.leaf_changes.proofs.tree_call.TreeCall.take_out.Goals as goal

pub row_goes-requires-clause-held : goal.row_goes-requires-clause-held
row_goes-requires-clause-held g c =
    goes_again c.args.pass.now c.args.block c.args.place c.requires.held

pub take_back-requires-clause-held : goal.take_back-requires-clause-held
take_back-requires-clause-held g c = let held = c.requires.held in
    put_then c.args.pass.now c.args.block c.args.place held c.row_goes.new.pass
    (c.row_goes.ensures.kept held.index held.known held.now held.has held.hash)

pub settle-requires-clause-held : goal.settle-requires-clause-held
settle-requires-clause-held g c = let held = c.requires.held in
    at_rest c.args.pass.now c.args.block c.args.place held c.row_goes.new.pass
    (c.row_goes.ensures.kept held.index held.known held.now held.has held.hash)
    c.take_back.new.pass c.take_back.ensures.same c.take_back.ensures.back

pub returns-clause-back : goal.returns-clause-back
returns-clause-back g c = let held = c.requires.held in
    taken_out c.args.pass.now c.args.block c.args.place held c.row_goes.new.pass
    (c.row_goes.ensures.kept held.index held.known held.now held.has held.hash)
    c.take_back.new.pass c.take_back.ensures.same c.take_back.ensures.back c.args.self.now.index
    c.settle.new.pass c.settle.ensures.did

pub returns-clause-own : goal.returns-clause-own
returns-clause-own g c = (
  passes_both c.args.pass.now c.row_goes.new.pass c.settle.new.pass c.row_goes.ensures.own.0
      (passes_both c.row_goes.new.pass c.take_back.new.pass c.settle.new.pass
      c.take_back.ensures.own.0 c.settle.ensures.own.0),
  c.settle.ensures.own.1,
)
