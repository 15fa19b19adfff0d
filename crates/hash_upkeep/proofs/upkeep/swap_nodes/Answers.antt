use Rattle.std.proofs.Common.{length, ◌∙◌}
use Rattle.hash_upkeep.specs.Change.{few_nodes}
use Rattle.hash_upkeep.specs.Hashing.{row_nodes}
use Rattle.hash_upkeep.proofs.EmptyLemmas.{keeps_on}
use Rattle.hash_upkeep.proofs.SwapLemmas.{goes_then_comes, outside_goes, outside_swap, still_covered, kept_is, dropped_is, spare_has}
use Rattle.hash_upkeep.proofs.upkeep.swap_nodes.Goals as goal

pub leave-requires : goal.leave-requires
leave-requires c = record { there = c.requires.there }

pub drop_block-requires-clause-covered : goal.drop_block-requires-clause-covered
drop_block-requires-clause-covered c =
    still_covered c.args.how.now.block (row_nodes c.args.how.now c.args.page.now.rows)
    (few_nodes c.args.goes.now) c.args.part.now.nodes c.leave.new.part.nodes c.requires.covered
    c.leave.ensures.nodes

pub returns-then-spare-need-clause-answer : goal.returns-then-spare-need-clause-answer
returns-then-spare-need-clause-answer c =
    dropped_is _ _ _ _ c.count-need.ensures (c.spare-spare.ensures ∙ c.leave.ensures.spare)
    c.if-spare-need.true

pub returns-then-spare-need-clause-nodes : goal.returns-then-spare-need-clause-nodes
returns-then-spare-need-clause-nodes c = c.drop_block.ensures.nodes

pub returns-then-spare-need-clause-others : goal.returns-then-spare-need-clause-others
returns-then-spare-need-clause-others c n other =
    c.drop_block.ensures.others n other
    ∙ outside_goes c.args.how.now.block (few_nodes c.args.goes.now) c.args.part.now.nodes
    c.leave.new.part.nodes c.requires.goes c.leave.ensures.nodes n other

pub returns-then-spare-need-clause-shape : goal.returns-then-spare-need-clause-shape
returns-then-spare-need-clause-shape c =
    keeps_on c.args.part.now c.leave.new.part c.drop_block.new.part c.leave.ensures.shape
    c.drop_block.ensures.shape

pub enter-requires : goal.enter-requires
enter-requires c = record {
  room = spare_has (length (few_nodes c.args.comes.now)) c.leave.new.part.spare c.count-need.result
      c.spare-spare.result c.count-need.ensures c.spare-spare.ensures c.if-spare-need.false;
}

pub returns-clause-answer : goal.returns-clause-answer
returns-clause-answer c =
    kept_is _ _ _ _ c.count-need.ensures (c.spare-spare.ensures ∙ c.leave.ensures.spare)
    c.if-spare-need.false

pub returns-clause-nodes : goal.returns-clause-nodes
returns-clause-nodes c =
    goes_then_comes (few_nodes c.args.goes.now) (few_nodes c.args.comes.now) c.args.part.now.nodes
    c.leave.new.part.nodes c.enter.new.part.nodes c.leave.ensures.nodes c.enter.ensures.nodes

pub returns-clause-others : goal.returns-clause-others
returns-clause-others c =
    outside_swap c.args.how.now.block (few_nodes c.args.goes.now) (few_nodes c.args.comes.now)
    c.args.part.now.nodes c.leave.new.part.nodes c.enter.new.part.nodes c.requires.goes
    c.requires.comes c.leave.ensures.nodes c.enter.ensures.nodes

pub returns-clause-shape : goal.returns-clause-shape
returns-clause-shape c =
    keeps_on c.args.part.now c.leave.new.part c.enter.new.part c.leave.ensures.shape
    c.enter.ensures.shape
