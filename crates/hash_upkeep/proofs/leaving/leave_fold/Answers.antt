use Rattle.std.proofs.Common.{◌≡◌, sym, ap, subst, ◌∙◌}
use Rattle.chain_arena.specs.Bag.{count_of}
use Rattle.hash_partition.specs.Part.{Part, KeepsShape}
use Rattle.hash_upkeep.proofs.FoldLemmas.{unchanged_if, none_is_left, fewer_are_left}
use Rattle.hash_upkeep.proofs.leaving.leave_fold.Goals as goal
use Rattle.hash_upkeep.proofs.leaving.leave_fold.Goals.{After-loop}

-- the last call found none and changed nothing
stays : (c : After-loop) → c.leave_of.new.self ≡ c.loop.part
stays c = unchanged_if c.leave_of.result c.loop.part c.leave_of.new.self
    (sym c.is_some.ensures ∙ c.loop-test.false) c.leave_of.ensures.unchanged

pub loop-smaller : goal.loop-smaller
loop-smaller c = fewer_are_left c.leave_of.result c.loop.part c.leave_of.new.self
    (sym c.is_some.ensures ∙ c.loop-test.true) c.leave_of.ensures.spare c.leave_of.ensures.kept

pub returns-clause-gone : goal.returns-clause-gone
returns-clause-gone c =
    none_is_left c.leave_of.result c.args.fold c.args.block c.loop.part c.leave_of.new.self
    (sym c.is_some.ensures ∙ c.loop-test.false) c.leave_of.ensures.absent
    c.leave_of.ensures.unchanged

pub returns-clause-others : goal.returns-clause-others
returns-clause-others c n other =
    ap (λ (p : Part). count_of n p.nodes) (stays (goal.at.returns-clause-others c).After-loop)
    ∙ c.loop.invariant.others n other

pub returns-clause-other_blocks : goal.returns-clause-other_blocks
returns-clause-other_blocks c n other =
    ap (λ (p : Part). count_of n p.nodes) (stays (goal.at.returns-clause-other_blocks c).After-loop)
    ∙ c.loop.invariant.other_blocks n other

pub returns-clause-shape : goal.returns-clause-shape
returns-clause-shape c =
    subst (KeepsShape c.args.part.now) (sym (stays (goal.at.returns-clause-shape c).After-loop))
    c.loop.invariant.shape
