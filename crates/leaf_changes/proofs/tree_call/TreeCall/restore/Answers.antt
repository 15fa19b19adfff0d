use Rattle.buffer_pool.proofs.AgainLemmas.{passes_both}
use Rattle.leaf_changes.proofs.ChangeLemmas.{knows_same}
use Rattle.leaf_changes.proofs.SettingLemmas.{paged_then, is_restored}
use Rattle.leaf_changes.proofs.tree_call.TreeCall.restore.Goals as goal

pub put_back-requires-clause-frame : goal.put_back-requires-clause-frame
put_back-requires-clause-frame g c =
    paged_then c.args.pass.now c.frame_out-frame.new.pass c.args.block c.frame_out-frame.result
    c.frame_out-frame.ensures.out c.requires.held

pub frame_back-requires-clause-out : goal.frame_back-requires-clause-out
frame_back-requires-clause-out g c = let held = c.requires.held in
    (held.known, (c.frame_out-frame.ensures.out.out held.known held.now held.has).0)

pub returns-clause-back : goal.returns-clause-back
returns-clause-back g c =
    is_restored c.args.pass.now c.frame_out-frame.new.pass c.frame_back.new.pass c.args.block
    c.frame_out-frame.result c.put_back.new.frame c.frame_out-frame.ensures.out
    c.frame_back.ensures.back c.args.before c.put_back.ensures

pub returns-clause-same : goal.returns-clause-same
returns-clause-same g c =
    knows_same c.args.pass.now c.frame_out-frame.new.pass c.frame_back.new.pass c.args.block
    c.frame_out-frame.result c.put_back.new.frame c.frame_out-frame.ensures.out
    c.frame_back.ensures.back

pub returns-clause-own : goal.returns-clause-own
returns-clause-own g c = (
  passes_both c.args.pass.now c.frame_out-frame.new.pass c.frame_back.new.pass
      c.frame_out-frame.ensures.own.0 c.frame_back.ensures.own.0,
  c.frame_back.ensures.own.1,
)
