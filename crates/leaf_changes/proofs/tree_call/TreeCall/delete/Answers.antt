use Rattle.buffer_pool.proofs.AgainLemmas.{passes_both}
use Rattle.leaf_changes.proofs.ChangeLemmas.{stands_there, took_out, knows_same}
use Rattle.leaf_changes.proofs.tree_call.TreeCall.delete.Goals as goal

pub delete_row-requires : goal.delete_row-requires
delete_row-requires g c =
    stands_there c.args.pass.now c.frame_out-frame.new.pass c.args.block c.frame_out-frame.result
    c.frame_out-frame.ensures.out c.args.place c.requires.held

pub frame_back-requires-clause-out : goal.frame_back-requires-clause-out
frame_back-requires-clause-out g c = let held = c.requires.held in
    (held.known, (c.frame_out-frame.ensures.out.out held.known held.now held.has).0)

pub returns-clause-out : goal.returns-clause-out
returns-clause-out g c =
    took_out c.args.pass.now c.frame_out-frame.new.pass c.frame_back.new.pass c.args.block
    c.frame_out-frame.result c.delete_row.new.frame c.frame_out-frame.ensures.out
    c.frame_back.ensures.back c.args.place c.delete_row.ensures.done

pub returns-clause-same : goal.returns-clause-same
returns-clause-same g c =
    knows_same c.args.pass.now c.frame_out-frame.new.pass c.frame_back.new.pass c.args.block
    c.frame_out-frame.result c.delete_row.new.frame c.frame_out-frame.ensures.out
    c.frame_back.ensures.back

pub returns-clause-own : goal.returns-clause-own
returns-clause-own g c = (
  passes_both c.args.pass.now c.frame_out-frame.new.pass c.frame_back.new.pass
      c.frame_out-frame.ensures.own.0 c.frame_back.ensures.own.0,
  c.frame_back.ensures.own.1,
)
