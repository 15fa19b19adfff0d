use Rattle.std.proofs.Common.{sym, subst}
use Rattle.latch_space.specs.Passes.{Lacks}
use Rattle.latch_space.specs.Takes.{DidTakeAfter}
use Rattle.forest_law.specs.Law.{IsLawful}
use Rattle.index_law.specs.Rightness.{IsRight}
use Rattle.forest_law.specs.References.{IsReference}
use Rattle.buffer_pool.proofs.TreeLemmas.{takes_tree}
use Rattle.buffer_pool.proofs.trees.take_tree.Goals as goal

pub take-requires-clause-lacks : goal.take-requires-clause-lacks
take-requires-clause-lacks g c =
    subst (Lacks c.args.pass.now) (sym c.tree_number-number.ensures) c.requires.lacks

pub returns-clause-took : goal.returns-clause-took
returns-clause-took g c =
    takes_tree c.args.pass.now c.take.new.pass c.args.index
    (subst
    (λ k. DidTakeAfter IsLawful IsRight IsReference c.args.pass.now k c.take.new.pass)
    c.tree_number-number.ensures c.take.ensures.did) c.requires.there
