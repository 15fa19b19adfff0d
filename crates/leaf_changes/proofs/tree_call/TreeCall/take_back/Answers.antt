use Rattle.buffer_pool.proofs.AgainLemmas.{passes_both}
use Rattle.leaf_changes.proofs.ChangeLemmas.{was_put, took_back, knows_same}
use Rattle.leaf_changes.proofs.tree_call.TreeCall.take_back.Goals as goal

pub take_back-requires : goal.take_back-requires
take_back-requires g c =
    was_put c.args.pass.now c.frame_out-frame.new.pass c.args.block c.frame_out-frame.result
    c.frame_out-frame.ensures.out c.args.place c.requires.held

pub frame_back-requires-clause-out : goal.frame_back-requires-clause-out
frame_back-requires-clause-out g c = let held = c.requires.held in
    (held.known, (c.frame_out-frame.ensures.out.out held.known held.now held.has).0)

pub returns-clause-back : goal.returns-clause-back
returns-clause-back g c =
    took_back c.args.pass.now c.frame_out-frame.new.pass c.frame_back.new.pass c.args.block
    c.frame_out-frame.result c.take_back.new.frame c.frame_out-frame.ensures.out
    c.frame_back.ensures.back c.args.place c.take_back.ensures

pub returns-clause-same : goal.returns-clause-same
returns-clause-same g c =
    knows_same c.args.pass.now c.frame_out-frame.new.pass c.frame_back.new.pass c.args.block
    c.frame_out-frame.result c.take_back.new.frame c.frame_out-frame.ensures.out
    c.frame_back.ensures.back

pub returns-clause-own : goal.returns-clause-own
returns-clause-own g c = (
  passes_both c.args.pass.now c.frame_out-frame.new.pass c.frame_back.new.pass
      c.frame_out-frame.ensures.own.0 c.frame_back.ensures.own.0,
  c.frame_back.ensures.own.1,
)
