use Rattle.std.proofs.Common.{◌-◌, ◌<◌, ◌∙◌, ap, sym, subst, arith}
use Rattle.buffer_pool.specs.Forests.{IsFittedTree}
use Rattle.buffer_pool.proofs.AgainLemmas.{passes_both}
use Rattle.latch_law.specs.declared.knows.Terms.{Terms}
use Rattle.index_law.specs.Shape.{Shape}
use Rattle.forest_law.specs.declared.objects.Tree.{Tree}
use Rattle.tree_shrinking.proofs.KeptPairLemmas.{in_place, moved_rows}
use Rattle.tree_shrinking.proofs.SinkLemmas.{one_lower, SinkCall, some_height, suits_sinking, rows_moved, SinkInHand, sink_kept}
use Rattle.tree_shrinking.proofs.SinkStepLemmas.{SinkMade, tree_there, tree_lowered, whole, follows, sinks_root}
use Rattle.tree_shrinking.proofs.sinking.sink_root.Given as given
use Rattle.tree_shrinking.proofs.sinking.sink_root.Goals as goal
use Rattle.tree_shrinking.proofs.sinking.sink_root.Goals.{After-laws_of_moves, After-keep_up_between, After-change_tree}

-- the call, as lemmas know it
call : (g : given.Over) (c : After-laws_of_moves g)
    → SinkCall c.args.pass.now c.args.index c.args.root c.args.child
call g c = record {
  known = c.requires.known;
  fitted = c.fits.ensures;
  below = c.requires.index;
  held = c.requires.held;
  inside = c.requires.inside;
  hash = c.requires.hash;
  few = c.requires.few;
  laws = c.laws_of_moves.ensures;
}

pub sink_storeys-requires-clause-suits : goal.sink_storeys-requires-clause-suits
sink_storeys-requires-clause-suits g c =
    suits_sinking (call g (goal.at.sink_storeys-requires-clause-suits g c).After-laws_of_moves)

pub returns-in_err-sink_storeys-clause-fits : goal.returns-in_err-sink_storeys-clause-fits
returns-in_err-sink_storeys-clause-fits g c =
    subst IsFittedTree (sym c.in_err-sink_storeys.ensures.err.same_view) c.fits.ensures

pub keep_up_between-requires : goal.keep_up_between-requires
keep_up_between-requires g c =
    let moves = rows_moved (call g (goal.at.keep_up_between-requires g c).After-laws_of_moves)
    c.sink_storeys.new.pass c.in_ok-sink_storeys.ensures.ok in
    record {
      own = (c.requires.own.0, c.sink_storeys.ensures.own.1);
      moved = moved_rows moves;
      place = in_place moves;
      room = (let same = moves.remakes.same_count in let room = c.requires.room in
          omega (arith, same, room));
    }

-- both frames are in hand, and the partition kept up with their rows
sunk : (g : given.Over) (c : After-keep_up_between g)
    → SinkCall c.args.pass.now c.args.index c.args.root c.args.child
    → SinkInHand c.args.pass.now c.args.index c.args.root c.args.child c.keep_up_between.new.pass
sunk g c call = sink_kept call c.sink_storeys.new.pass c.keep_up_between.new.pass
    c.in_ok-sink_storeys.ensures.ok c.keep_up_between.ensures.kept

pub tree-old-requires-clause-held : goal.tree-old-requires-clause-held
tree-old-requires-clause-held g c =
    let at = goal.at.tree-old-requires-clause-held g c in
    let s = sunk g at.After-keep_up_between (call g at.After-laws_of_moves) in
    (s.call.held.tree, s.call.held.tree, tree_there s)

pub change_tree-requires-clause-held : goal.change_tree-requires-clause-held
change_tree-requires-clause-held g c =
    let at = goal.at.change_tree-requires-clause-held g c in
    let s = sunk g at.After-keep_up_between (call g at.After-laws_of_moves) in
    (s.call.held.tree, s.call.held.tree, tree_there s)

pub overflow_sub-height : goal.overflow_sub-height
overflow_sub-height g c =
    let at = goal.at.overflow_sub-height g c in
    let s = sunk g at.After-keep_up_between (call g at.After-laws_of_moves) in
    let t = s.call.held.tree in let some = some_height s.call in
    let same = ap (λ (z : Tree). z.height) (c.tree-old.ensures t t (tree_there s)) in
    omega (arith, some, same)

-- all is in hand that is to be settled
lowered : (g : given.Over) (c : After-change_tree g)
    → SinkInHand c.args.pass.now c.args.index c.args.root c.args.child c.keep_up_between.new.pass
    → SinkMade c.args.pass.now c.args.index c.args.root c.args.child c.change_tree.new.pass
lowered g c s = let t = s.call.held.tree in let old = c.tree-old.result in
    tree_lowered s (record old { height = old.height - 1 })
    (one_lower t old (c.tree-old.ensures t t (tree_there s)) (some_height s.call))
    c.change_tree.new.pass c.change_tree.ensures.changed

pub settle-requires : goal.settle-requires
settle-requires g c = let at = goal.at.settle-requires g c in
    let all = lowered g at.After-change_tree (sunk g at.After-keep_up_between
    (call g at.After-laws_of_moves)) in
    record { own = c.change_tree.ensures.own.1; whole = whole all; rule = follows all }

pub returns-clause-own : goal.returns-clause-own
returns-clause-own g c = let p = c.args.pass.now in let sunk = c.sink_storeys.new.pass in
    let kept = c.keep_up_between.new.pass in let lowered = c.change_tree.new.pass in
    let settled = c.settle.new.pass in (
      passes_both p sunk settled c.sink_storeys.ensures.own.0
          (passes_both sunk kept settled c.keep_up_between.ensures.own.0
          (passes_both kept lowered settled c.change_tree.ensures.own.0 c.settle.ensures.own.0)),
      c.settle.ensures.own.1,
    )

pub returns-clause-ok : goal.returns-clause-ok
returns-clause-ok g c = let at = goal.at.returns-clause-ok g c in
    sinks_root (lowered g at.After-change_tree (sunk g at.After-keep_up_between
    (call g at.After-laws_of_moves)))
    c.settle.new.pass c.settle.ensures.did

pub tree-old-requires-clause-there : goal.tree-old-requires-clause-there
tree-old-requires-clause-there g c =
    subst (λ (t : Terms Shape). c.args.index < t.shape.indexes)
    (c.requires.own.1.1 ∙ sym c.keep_up_between.ensures.own.1.1) c.requires.index

pub change_tree-requires-clause-there : goal.change_tree-requires-clause-there
change_tree-requires-clause-there g c =
    subst (λ (t : Terms Shape). c.args.index < t.shape.indexes)
    (c.requires.own.1.1 ∙ sym c.keep_up_between.ensures.own.1.1) c.requires.index
