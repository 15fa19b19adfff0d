use Rattle.std.proofs.Common.{[], subst, IfErr}
use Rattle.buffer_pool.proofs.CallLemmas.{tree_has}
use Rattle.buffer_pool.specs.declared.error.PoolError.TheVariants as refused
use Rattle.buffer_pool.proofs.AgainLemmas.{passes_both}
use Rattle.tree_growth.specs.Growing.{MakesRoom}
use Rattle.tree_growth.specs.Ways.{IsGoingDown, StopsOnWay, WalksDown}
use Rattle.tree_growth.proofs.AnswerLemmas.{on_ok_more}
use Rattle.tree_growth.proofs.TreeLemmas.{lacks_tree, way_tree, way_either, grows_silently, makes_room, finds_no_room}
use Rattle.tree_growth.proofs.room.make_room.Given as given
use Rattle.tree_growth.proofs.room.make_room.Goals as goal
use Rattle.tree_growth.proofs.room.make_room.Goals.{After-walk_down-made}

pub take_tree-requires-clause-lacks : goal.take_tree-requires-clause-lacks
take_tree-requires-clause-lacks g c =
    lacks_tree c.args.space.now c.args.pass.now c.requires.own.0 c.requires.own.1 c.args.index
    c.requires.index c.requires.nothing

pub walk_down-made-requires-clause-way : goal.walk_down-made-requires-clause-way
walk_down-made-requires-clause-way g c =
    way_tree c.args.pass.now c.take_tree.new.pass c.args.index c.args.key.now.tuple
    c.requires.index c.requires.few c.requires.fields c.requires.nothing c.take_tree.ensures.took

-- what is in hand after the walk
walked : (g : given.Over) (c : After-walk_down-made g)
    → IsGoingDown c.walk_down-made.new.pass c.args.index c.args.key.now.tuple []
walked g c = let made = c.walk_down-made.ensures in
    way_either c.walk_down-made.result c.take_tree.new.pass c.walk_down-made.new.pass
    c.args.index c.args.key.now.tuple c.args.need made.ok made.err

pub give_tree_back-requires-clause-there : goal.give_tree_back-requires-clause-there
give_tree_back-requires-clause-there g c =
    (walked g (goal.at.give_tree_back-requires-clause-there g c).After-walk_down-made).index

pub give_tree_back-requires-clause-held : goal.give_tree_back-requires-clause-held
give_tree_back-requires-clause-held g c =
    let way = walked g (goal.at.give_tree_back-requires-clause-held g c).After-walk_down-made in
    (way.tree, tree_has c.walk_down-made.new.pass way.known c.args.index way.tree way.knows)

pub returns-clause-ok : goal.returns-clause-ok
returns-clause-ok g c =
    let p = c.args.pass.now in let q = c.take_tree.new.pass in
    let r = c.walk_down-made.new.pass in let s = c.give_tree_back.new.pass in
    let i = c.args.index in let key = c.args.key.now.tuple in
    let made = c.walk_down-made.ensures in
    let way = walked g (goal.at.returns-clause-ok g c).After-walk_down-made in
    on_ok_more (WalksDown q i key c.args.need r) (MakesRoom p i key c.args.need s)
    c.walk_down-made.result
    (makes_room p q i key c.requires.index c.requires.few c.requires.fields c.requires.nothing
    c.take_tree.ensures.took r s way c.give_tree_back.ensures.gave c.args.need) made.ok

pub returns-clause-full : goal.returns-clause-full
returns-clause-full g c = λ e.
    let p = c.args.pass.now in let q = c.take_tree.new.pass in
    let r = c.walk_down-made.new.pass in let s = c.give_tree_back.new.pass in
    let i = c.args.index in let key = c.args.key.now.tuple in
    let made = c.walk_down-made.ensures in
    let way = walked g (goal.at.returns-clause-full g c).After-walk_down-made in
    let stops : StopsOnWay q i key refused.SpaceFull r =
    subst (λ m. IfErr m (λ e. StopsOnWay q i key e r)) e made.err in
    finds_no_room p q i key c.requires.index c.requires.few c.requires.fields c.requires.nothing
    c.take_tree.ensures.took r s way c.give_tree_back.ensures.gave stops.says

pub returns-clause-memory : goal.returns-clause-memory
returns-clause-memory g c = λ e.
    let p = c.args.pass.now in let q = c.take_tree.new.pass in
    let r = c.walk_down-made.new.pass in let s = c.give_tree_back.new.pass in
    let i = c.args.index in let key = c.args.key.now.tuple in
    let made = c.walk_down-made.ensures in
    let way = walked g (goal.at.returns-clause-memory g c).After-walk_down-made in
    let stops : StopsOnWay q i key refused.NoMemory r =
    subst (λ m. IfErr m (λ e. StopsOnWay q i key e r)) e made.err in
    grows_silently p q i key c.requires.index c.requires.few c.requires.fields c.requires.nothing
    c.take_tree.ensures.took r s way c.give_tree_back.ensures.gave stops.says

pub returns-clause-own : goal.returns-clause-own
returns-clause-own g c = (
  passes_both c.args.pass.now c.take_tree.new.pass c.give_tree_back.new.pass
      c.take_tree.ensures.own.0 (passes_both c.take_tree.new.pass c.walk_down-made.new.pass
      c.give_tree_back.new.pass c.walk_down-made.ensures.own.0 c.give_tree_back.ensures.own.0),
  c.give_tree_back.ensures.own.1,
)
