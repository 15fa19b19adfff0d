use Rattle.buffer_pool.proofs.CallLemmas.{tree_has}
use Rattle.tree_growth.proofs.AnswerLemmas.{on_ok_more}
use Rattle.tree_growth.proofs.TreeLemmas.{lacks_tree, way_tree, grows_silently}
use Rattle.buffer_pool.proofs.AgainLemmas.{passes_both}
use Rattle.tree_shrinking.specs.Joins.{WalksUp}
use Rattle.tree_shrinking.specs.Shrinking.{Shrinks}
use Rattle.tree_shrinking.proofs.ShrinkLemmas.{shrinks}
use Rattle.tree_shrinking.proofs.shrinking.shrink.Goals as goal

pub take_tree-requires-clause-lacks : goal.take_tree-requires-clause-lacks
take_tree-requires-clause-lacks g c =
    lacks_tree c.args.space.now c.args.pass.now c.requires.own.0 c.requires.own.1 c.args.index
    c.requires.index c.requires.nothing

pub shrink_up-outcome-requires-clause-way : goal.shrink_up-outcome-requires-clause-way
shrink_up-outcome-requires-clause-way g c =
    way_tree c.args.pass.now c.take_tree.new.pass c.args.index c.args.key.now.tuple
    c.requires.index c.requires.few c.requires.fields c.requires.nothing c.take_tree.ensures.took

pub give_tree_back-requires-clause-held : goal.give_tree_back-requires-clause-held
give_tree_back-requires-clause-held g c = let way = c.shrink_up-outcome.ensures.to.way in
    (way.tree, tree_has c.shrink_up-outcome.new.pass way.known c.args.index way.tree way.knows)

pub returns-clause-quiet : goal.returns-clause-quiet
returns-clause-quiet g c =
    grows_silently c.args.pass.now c.take_tree.new.pass c.args.index c.args.key.now.tuple
    c.requires.index c.requires.few c.requires.fields c.requires.nothing c.take_tree.ensures.took
    c.shrink_up-outcome.new.pass c.give_tree_back.new.pass c.shrink_up-outcome.ensures.to.way
    c.give_tree_back.ensures.gave c.shrink_up-outcome.ensures.to.goes

pub returns-clause-ok : goal.returns-clause-ok
returns-clause-ok g c =
    let i = c.args.index in let key = c.args.key.now.tuple in
    on_ok_more (WalksUp c.take_tree.new.pass i key c.shrink_up-outcome.new.pass)
    (Shrinks c.args.pass.now i key c.give_tree_back.new.pass) c.shrink_up-outcome.result
    (λ walks. shrinks c.requires.index c.requires.few c.requires.fields c.requires.nothing
    c.take_tree.ensures.took walks c.give_tree_back.ensures.gave) c.shrink_up-outcome.ensures.ok

pub returns-clause-own : goal.returns-clause-own
returns-clause-own g c = (
  passes_both c.args.pass.now c.take_tree.new.pass c.give_tree_back.new.pass
      c.take_tree.ensures.own.0 (passes_both c.take_tree.new.pass c.shrink_up-outcome.new.pass
      c.give_tree_back.new.pass c.shrink_up-outcome.ensures.own.0 c.give_tree_back.ensures.own.0),
  c.give_tree_back.ensures.own.1,
)

pub give_tree_back-requires-clause-there : goal.give_tree_back-requires-clause-there
give_tree_back-requires-clause-there g c = c.shrink_up-outcome.ensures.to.way.index
