use Rattle.buffer_pool.proofs.AgainLemmas.{passes_both}
use Rattle.leaf_changes.proofs.ChangeLemmas.{knows_same}
use Rattle.leaf_changes.proofs.SettingLemmas.{stands_to_grow, longer_then, lengthened_ok, lengthened_err}
use Rattle.leaf_changes.proofs.tree_call.TreeCall.lengthen.Goals as goal

pub grow_value-result-requires-clause-there : goal.grow_value-result-requires-clause-there
grow_value-result-requires-clause-there g c =
    stands_to_grow c.args.pass.now c.frame_out-frame.new.pass c.args.block c.frame_out-frame.result
    c.frame_out-frame.ensures.out c.args.place c.args.value.now c.requires.held

pub grow_value-result-requires-clause-longer : goal.grow_value-result-requires-clause-longer
grow_value-result-requires-clause-longer g c =
    longer_then c.args.pass.now c.frame_out-frame.new.pass c.args.block c.frame_out-frame.result
    c.frame_out-frame.ensures.out c.args.place c.args.value.now c.requires.held

pub frame_back-requires-clause-out : goal.frame_back-requires-clause-out
frame_back-requires-clause-out g c = let held = c.requires.held in
    (held.known, (c.frame_out-frame.ensures.out.out held.known held.now held.has).0)

pub returns-clause-ok : goal.returns-clause-ok
returns-clause-ok g c = let did = c.grow_value-result.ensures in
    lengthened_ok c.args.pass.now c.frame_out-frame.new.pass c.frame_back.new.pass c.args.block
    c.frame_out-frame.result c.grow_value-result.new.frame c.frame_out-frame.ensures.out
    c.frame_back.ensures.back c.args.place c.args.value.now c.grow_value-result.result did.ok
    did.moves did.before did.some did.hash

pub returns-clause-err : goal.returns-clause-err
returns-clause-err g c = let did = c.grow_value-result.ensures in
    lengthened_err c.args.pass.now c.frame_out-frame.new.pass c.frame_back.new.pass c.args.block
    c.frame_out-frame.result c.grow_value-result.new.frame c.frame_out-frame.ensures.out
    c.frame_back.ensures.back c.args.place c.args.value.now c.grow_value-result.result did.cause
    did.err

pub returns-clause-same : goal.returns-clause-same
returns-clause-same g c =
    knows_same c.args.pass.now c.frame_out-frame.new.pass c.frame_back.new.pass c.args.block
    c.frame_out-frame.result c.grow_value-result.new.frame c.frame_out-frame.ensures.out
    c.frame_back.ensures.back

pub returns-clause-own : goal.returns-clause-own
returns-clause-own g c = (
  passes_both c.args.pass.now c.frame_out-frame.new.pass c.frame_back.new.pass
      c.frame_out-frame.ensures.own.0 c.frame_back.ensures.own.0,
  c.frame_back.ensures.own.1,
)
