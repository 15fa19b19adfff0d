use Rattle.buffer_pool.proofs.AgainLemmas.{passes_both}
use Rattle.leaf_changes.proofs.BothLemmas.{may_go, frame_stays, nothing_left}
use Rattle.leaf_changes.proofs.tree_call.TreeCall.let_both_go.Goals as goal

pub give_back-requires-clause-held : goal.give_back-requires-clause-held
give_back-requires-clause-held g c = may_go c.args.pass.now c.give_part.new.pass c.args.block
    c.args.part c.requires.held c.give_part.ensures.gave

pub returns-clause-nothing : goal.returns-clause-nothing
returns-clause-nothing g c = nothing_left c.args.pass.now c.give_part.new.pass c.args.block
    c.args.part c.requires.held c.give_part.ensures.gave c.give_back.new.pass
    c.give_back.ensures.gave

pub returns-clause-gave : goal.returns-clause-gave
returns-clause-gave g c = record {
  between = c.give_part.new.pass;
  gave_part = c.give_part.ensures.gave;
  gave = c.give_back.ensures.gave;
  frame = frame_stays c.args.pass.now c.give_part.new.pass c.args.block c.args.part
      c.requires.held c.give_part.ensures.gave;
}

pub returns-clause-own : goal.returns-clause-own
returns-clause-own g c = (
  passes_both c.args.pass.now c.give_part.new.pass c.give_back.new.pass c.give_part.ensures.own.0
      c.give_back.ensures.own.0,
  c.give_back.ensures.own.1,
)
