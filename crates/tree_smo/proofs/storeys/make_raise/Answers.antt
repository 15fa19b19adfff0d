use Rattle.std.proofs.Common.{◌<◌, ◌∙◌, ◌≡◌, sym, subst, arith, rules, ℕ, Option}
use Rattle.latch_space.specs.Passes.{view}
use Rattle.buffer_pool.specs.Forests.{IsFittedTree}
use Rattle.buffer_pool.proofs.AgainLemmas.{passes_both}
use Rattle.latch_law.specs.declared.knows.Terms.{Terms}
use Rattle.index_law.specs.Shape.{Shape}
use Rattle.tree_smo.specs.PartHeld.{HoldsPartFor}
use Rattle.tree_smo.proofs.RaiseKeptLemmas.{RaisesKept, raised_rows, in_place, same_count, raises_kept}
use Rattle.tree_smo.proofs.RaiseLemmas.{tree_there, whole, follows, makes_raise}
use Rattle.tree_smo.proofs.RisingLemmas.{RaiseCall, one_higher, height_fits, suits_storeys}
use Rattle.tree_smo.proofs.storeys.make_raise.Given as given
use Rattle.tree_smo.proofs.storeys.make_raise.Goals as goal
use Rattle.tree_smo.proofs.storeys.make_raise.Goals.{After-laws_of_moves, After-keep_up_between, After-tree-old}

-- the call, as lemmas know it
call : (g : given.Over) (c : After-laws_of_moves g)
    → (part : Option ℕ) × HoldsPartFor (view c.args.pass.now) c.args.root part
    → RaiseCall c.args.pass.now c.args.index c.args.root c.args.under
call g c part = search

pub change_storeys-requires-clause-suits : goal.change_storeys-requires-clause-suits
change_storeys-requires-clause-suits g c = suits_storeys
    (call g (goal.at.change_storeys-requires-clause-suits g c).After-laws_of_moves c.requires.part)

pub returns-in_err-change_storeys-clause-fits : goal.returns-in_err-change_storeys-clause-fits
returns-in_err-change_storeys-clause-fits g c =
    subst IsFittedTree (sym c.in_err-change_storeys.ensures.err.same_view) c.fits.ensures

pub keep_up_between-requires : goal.keep_up_between-requires
keep_up_between-requires g c =
    let call = call g (goal.at.keep_up_between-requires g c).After-laws_of_moves c.requires.part in
    let q = c.change_storeys.new.pass in let changes = c.in_ok-change_storeys.ensures.ok in
    record {
      own = search rules;
      moved = raised_rows call q changes;
      place = in_place call q changes;
      room = (let same = same_count call q changes in let room = c.requires.room in
          omega (arith, same, room));
    }

-- the root was raised, and its partition kept up with its rows
raised : (g : given.Over) (c : After-keep_up_between g)
    (call : RaiseCall c.args.pass.now c.args.index c.args.root c.args.under)
    → RaisesKept c.args.pass.now c.args.index c.args.root c.args.under call
    c.keep_up_between.new.pass
raised g c call = raises_kept call c.change_storeys.new.pass c.in_ok-change_storeys.ensures.ok
    c.keep_up_between.new.pass c.keep_up_between.ensures.kept

pub tree-old-requires-clause-held : goal.tree-old-requires-clause-held
tree-old-requires-clause-held g c = let at = goal.at.tree-old-requires-clause-held g c in
    let call = call g at.After-laws_of_moves c.requires.part in
    (call.held.can.tree, call.held.can.tree, tree_there (raised g at.After-keep_up_between call))

pub change_tree-requires-clause-held : goal.change_tree-requires-clause-held
change_tree-requires-clause-held g c = let at = goal.at.change_tree-requires-clause-held g c in
    let call = call g at.After-laws_of_moves c.requires.part in
    (call.held.can.tree, call.held.can.tree, tree_there (raised g at.After-keep_up_between call))

-- the tree that was read is that of the call
tree_read : (g : given.Over) (c : After-tree-old g)
    (call : RaiseCall c.args.pass.now c.args.index c.args.root c.args.under)
    → RaisesKept c.args.pass.now c.args.index c.args.root c.args.under call
    c.keep_up_between.new.pass
    → c.tree-old.result ≡ call.held.can.tree
tree_read g c call raised = c.tree-old.ensures call.held.can.tree call.held.can.tree
    (tree_there raised)

pub overflow_add-height : goal.overflow_add-height
overflow_add-height g c = let at = goal.at.overflow_add-height g c in
    let call = call g at.After-laws_of_moves c.requires.part in
    let room = height_fits call c.tree-old.result
    (tree_read g at.After-tree-old call (raised g at.After-keep_up_between call)) in
    omega (arith, room)

pub settle-requires : goal.settle-requires
settle-requires g c = let at = goal.at.settle-requires g c in
    let call = call g at.After-laws_of_moves c.requires.part in
    let raised = raised g at.After-keep_up_between call in
    let grows = one_higher call.held.can.tree c.tree-old.result
    (tree_read g at.After-tree-old call raised) in
    record {
      own = search rules;
      whole = whole raised grows c.change_tree.ensures.changed;
      rule = follows raised grows c.change_tree.ensures.changed;
    }

pub returns-clause-own : goal.returns-clause-own
returns-clause-own g c = let p = c.args.pass.now in let changed = c.change_storeys.new.pass in
    let kept = c.keep_up_between.new.pass in let raised = c.change_tree.new.pass in
    let settled = c.settle.new.pass in (
      passes_both p changed settled c.change_storeys.ensures.own.0
          (passes_both changed kept settled c.keep_up_between.ensures.own.0
          (passes_both kept raised settled c.change_tree.ensures.own.0 c.settle.ensures.own.0)),
      c.settle.ensures.own.1,
    )

pub returns-clause-ok : goal.returns-clause-ok
unfolding call
returns-clause-ok g c part holds = let at = goal.at.returns-clause-ok g c in
    let call = call g at.After-laws_of_moves (part, holds) in
    let raised = raised g at.After-keep_up_between call in
    let grows = one_higher call.held.can.tree c.tree-old.result
    (tree_read g at.After-tree-old call raised) in
    makes_raise raised grows c.change_tree.ensures.changed c.settle.ensures.did

-- the pass has as many indexes as before
pub tree-old-requires-clause-there : goal.tree-old-requires-clause-there
tree-old-requires-clause-there g c = subst (λ (t : Terms Shape). c.args.index < t.shape.indexes)
    (c.requires.own.1.1 ∙ sym c.keep_up_between.ensures.own.1.1) c.requires.index

pub change_tree-requires-clause-there : goal.change_tree-requires-clause-there
change_tree-requires-clause-there g c = subst (λ (t : Terms Shape). c.args.index < t.shape.indexes)
    (c.requires.own.1.1 ∙ sym c.keep_up_between.ensures.own.1.1) c.requires.index
