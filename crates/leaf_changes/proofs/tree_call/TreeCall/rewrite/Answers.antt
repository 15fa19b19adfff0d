use Rattle.buffer_pool.proofs.AgainLemmas.{passes_both}
use Rattle.leaf_changes.proofs.ChangeLemmas.{knows_same}
use Rattle.leaf_changes.proofs.SettingLemmas.{stands_to_set, no_longer_then, row_is_set}
use Rattle.leaf_changes.proofs.tree_call.TreeCall.rewrite.Goals as goal

pub rewrite_row-requires-clause-there : goal.rewrite_row-requires-clause-there
rewrite_row-requires-clause-there g c =
    stands_to_set c.args.pass.now c.frame_out-frame.new.pass c.args.block c.frame_out-frame.result
    c.frame_out-frame.ensures.out c.args.place c.args.value.now c.requires.held

pub rewrite_row-requires-clause-no_longer : goal.rewrite_row-requires-clause-no_longer
rewrite_row-requires-clause-no_longer g c =
    no_longer_then c.args.pass.now c.frame_out-frame.new.pass c.args.block c.frame_out-frame.result
    c.frame_out-frame.ensures.out c.args.place c.args.value.now c.requires.held

pub frame_back-requires-clause-out : goal.frame_back-requires-clause-out
frame_back-requires-clause-out g c = let held = c.requires.held in
    (held.known, (c.frame_out-frame.ensures.out.out held.known held.now held.has).0)

pub returns-clause-set : goal.returns-clause-set
returns-clause-set g c =
    row_is_set c.args.pass.now c.frame_out-frame.new.pass c.frame_back.new.pass c.args.block
    c.frame_out-frame.result c.rewrite_row.new.frame c.frame_out-frame.ensures.out
    c.frame_back.ensures.back c.args.place c.args.value.now c.rewrite_row.ensures

pub returns-clause-same : goal.returns-clause-same
returns-clause-same g c =
    knows_same c.args.pass.now c.frame_out-frame.new.pass c.frame_back.new.pass c.args.block
    c.frame_out-frame.result c.rewrite_row.new.frame c.frame_out-frame.ensures.out
    c.frame_back.ensures.back

pub returns-clause-own : goal.returns-clause-own
returns-clause-own g c = (
  passes_both c.args.pass.now c.frame_out-frame.new.pass c.frame_back.new.pass
      c.frame_out-frame.ensures.own.0 c.frame_back.ensures.own.0,
  c.frame_back.ensures.own.1,
)
