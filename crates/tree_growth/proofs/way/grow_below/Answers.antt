use Rattle.std.proofs.Common.{◌≡◌, [], ◌∷◌, ◌+◌, arith}
use Rattle.latch_space.specs.Passes.{view}
use Rattle.buffer_pool.proofs.AgainLemmas.{passes_both}
use Rattle.tree_growth.specs.declared.looking.PageInHand.{PageInHand}
use Rattle.tree_growth.specs.Ways.{ArrivesWithRoom, StopsOnWay, GrowsChild}
use Rattle.tree_growth.proofs.AddLemmas.{reaches_after, stops_after}
use Rattle.tree_growth.proofs.ChildLemmas.{holds_inner, goes_child, way_child, holds_child, its_child_level}
use Rattle.tree_growth.proofs.HandLemmas.{no_frame_but, no_table}
use Rattle.tree_growth.proofs.AnswerLemmas.{ok_more, err_more}
use Rattle.tree_growth.proofs.way.grow_below.Goals as goal

pub child_for-child-requires-clause-held : goal.child_for-child-requires-clause-held
child_for-child-requires-clause-held g c =
    holds_inner (view c.args.pass.now) c.args.index c.args.key.now.tuple c.args.need c.args.at
    c.requires.held c.requires.inner

pub child_for-child-requires-clause-frames : goal.child_for-child-requires-clause-frames
child_for-child-requires-clause-frames g c =
    no_frame_but c.args.space.now c.args.pass.now c.requires.own.0 c.requires.own.1 c.args.index
    c.args.key.now.tuple (c.args.at.block ∷ []) c.requires.way

pub child_for-child-requires-clause-tables : goal.child_for-child-requires-clause-tables
child_for-child-requires-clause-tables g c =
    no_table c.args.space.now c.args.pass.now c.requires.own.0 c.requires.own.1 c.args.index
    c.args.key.now.tuple (c.args.at.block ∷ []) c.requires.way

pub grow_child-requires-clause-way : goal.grow_child-requires-clause-way
grow_child-requires-clause-way g c =
    way_child c.args.pass.now c.child_for-child.new.pass c.args.index c.args.key.now.tuple
    c.args.need c.args.at c.child_for-child.result c.requires.way c.requires.held c.requires.inner
    c.child_for-child.ensures.took

pub grow_child-requires-clause-held : goal.grow_child-requires-clause-held
grow_child-requires-clause-held g c =
    holds_child c.args.pass.now c.child_for-child.new.pass c.args.index c.args.key.now.tuple
    c.args.need c.args.at c.child_for-child.result c.requires.way c.requires.held c.requires.inner
    c.child_for-child.ensures.took c.requires.room

pub returns-clause-ok : goal.returns-clause-ok
returns-clause-ok g c =
    let p = c.args.pass.now in let q = c.child_for-child.new.pass in
    let r = c.grow_child.new.pass in let i = c.args.index in let key = c.args.key.now.tuple in
    let need = c.args.need in let n = c.child_for-child.result in
    ok_more (λ at. GrowsChild q c.args.at.block n i key need at r)
    (λ at. ArrivesWithRoom p i key need at r) c.grow_child.result
    (λ at grows. record {
      reaches = reaches_after p q r i key need at
          (goes_child p q i key need c.args.at n c.requires.way c.requires.held c.requires.inner
          c.child_for-child.ensures.took) grows.reaches;
      fits = grows.fits;
    }) c.grow_child.ensures.ok

pub returns-clause-lower : goal.returns-clause-lower
returns-clause-lower g c =
    let p = c.args.pass.now in let q = c.child_for-child.new.pass in
    let r = c.grow_child.new.pass in let i = c.args.index in let key = c.args.key.now.tuple in
    let need = c.args.need in let n = c.child_for-child.result in
    let held = holds_child p q i key need c.args.at n c.requires.way c.requires.held
    c.requires.inner c.child_for-child.ensures.took c.requires.room in
    let one = its_child_level p q i key need c.args.at n c.requires.way c.requires.held
    c.requires.inner c.child_for-child.ensures.took c.requires.room in
    ok_more (λ at. GrowsChild q c.args.at.block n i key need at r)
    (λ (at : PageInHand). c.args.at.level ≡ at.level + 1) c.grow_child.result
    (λ at grows. let e = grows.level held in omega (arith, e, one)) c.grow_child.ensures.ok

pub returns-clause-err : goal.returns-clause-err
returns-clause-err g c =
    let p = c.args.pass.now in let q = c.child_for-child.new.pass in
    let r = c.grow_child.new.pass in let i = c.args.index in let key = c.args.key.now.tuple in
    err_more (λ e. StopsOnWay q i key e r) (λ e. StopsOnWay p i key e r) c.grow_child.result
    (λ e. stops_after p q r i key e
    (goes_child p q i key c.args.need c.args.at c.child_for-child.result c.requires.way
    c.requires.held c.requires.inner c.child_for-child.ensures.took)) c.grow_child.ensures.err

pub returns-clause-own : goal.returns-clause-own
returns-clause-own g c = (
  passes_both c.args.pass.now c.child_for-child.new.pass c.grow_child.new.pass
      c.child_for-child.ensures.own.0 c.grow_child.ensures.own.0,
  c.grow_child.ensures.own.1,
)
