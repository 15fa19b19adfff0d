use Rattle.buffer_pool.proofs.AgainLemmas.{passes_both}
use Rattle.leaf_changes.proofs.ChangeLemmas.{lacks_there, inserted_ok, inserted_err, knows_same}
use Rattle.leaf_changes.proofs.tree_call.TreeCall.insert.Goals as goal

pub put_row-result-requires : goal.put_row-result-requires
put_row-result-requires g c = let held = c.requires.held in let leaf = c.args.leaf.now in
    lacks_there c.args.pass.now c.frame_out-frame.new.pass leaf.block c.frame_out-frame.result
    c.frame_out-frame.ensures.out c.args.self.now.key.now.tuple leaf.spot held.frame held.holds.has
    held.lacks

pub frame_back-requires-clause-out : goal.frame_back-requires-clause-out
frame_back-requires-clause-out g c = let held = c.requires.held in
    (held.frame, (c.frame_out-frame.ensures.out.out held.frame held.frame held.holds.has).0)

pub returns-clause-ok : goal.returns-clause-ok
returns-clause-ok g c = let held = c.requires.held in let call = c.args.self.now in
    inserted_ok c.args.pass.now c.frame_out-frame.new.pass c.frame_back.new.pass
    c.args.leaf.now.block c.frame_out-frame.result c.put_row-result.new.frame
    c.frame_out-frame.ensures.out c.frame_back.ensures.back call.index call.key.now.tuple
    c.args.value.now held.frame held.holds c.put_row-result.result c.put_row-result.ensures.ok
    c.put_row-result.ensures.hash

pub returns-clause-err : goal.returns-clause-err
returns-clause-err g c = let held = c.requires.held in let call = c.args.self.now in
    inserted_err c.args.pass.now c.frame_out-frame.new.pass c.frame_back.new.pass
    c.args.leaf.now.block c.frame_out-frame.result c.put_row-result.new.frame
    c.frame_out-frame.ensures.out c.frame_back.ensures.back call.index call.key.now.tuple
    c.args.value.now held.frame held.holds c.put_row-result.result c.put_row-result.ensures.full
    c.put_row-result.ensures.err

pub returns-clause-same : goal.returns-clause-same
returns-clause-same g c =
    knows_same c.args.pass.now c.frame_out-frame.new.pass c.frame_back.new.pass
    c.args.leaf.now.block
    c.frame_out-frame.result c.put_row-result.new.frame c.frame_out-frame.ensures.out
    c.frame_back.ensures.back

pub returns-clause-own : goal.returns-clause-own
returns-clause-own g c = (
  passes_both c.args.pass.now c.frame_out-frame.new.pass c.frame_back.new.pass
      c.frame_out-frame.ensures.own.0 c.frame_back.ensures.own.0,
  c.frame_back.ensures.own.1,
)
