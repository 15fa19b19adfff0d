use Rattle.std.proofs.Common.{◌<◌, Ok, refl, ap, arith}
use Rattle.latch_space.specs.Passes.{view}
use Rattle.tree_descent.proofs.PageLemmas.{may_give_back}
use Rattle.buffer_pool.proofs.CallLemmas.{frame_has}
use Rattle.tree_growth.proofs.ChildLemmas.{holds_inner, level_above}
use Rattle.buffer_pool.proofs.AgainLemmas.{passes_both}
use Rattle.tree_shrinking.proofs.LeaveLemmas.{rests_below, rests_under, frees_one}
use Rattle.tree_shrinking.proofs.LevelLemmas.{given_at_once, given_after, none_or_named}
use Rattle.tree_shrinking.proofs.levels.join_level.Goals as goal

pub returns-then-at-level-clause-to : goal.returns-then-at-level-clause-to
returns-then-at-level-clause-to g c =
    given_at_once c.walk_above-at.ensures.reaches c.give_back.ensures.gave

pub give_back-requires-clause-held : goal.give_back-requires-clause-held
give_back-requires-clause-held g c = let at = c.walk_above-at.result in
    let reaches = c.walk_above-at.ensures.reaches in
    may_give_back c.walk_above-at.new.pass reaches.way.known at.block c.args.index at.level
    reaches.is.frame reaches.is.knows reaches.is.page.is

pub give_back-requires-2-clause-held : goal.give_back-requires-2-clause-held
give_back-requires-2-clause-held g c = let back = c.join_child-merged.ensures.back in (
  back.up,
  frame_has c.join_child-merged.new.pass back.to.way.known c.walk_above-at.result.block back.up
      back.knows,
  back.inside,
)

pub join_child-merged-requires-clause-held : goal.join_child-merged-requires-clause-held
join_child-merged-requires-clause-held g c = let high = c.if-at-level.false in
    holds_inner (view c.walk_above-at.new.pass) c.args.index c.args.key.now.tuple 0
    c.walk_above-at.result c.walk_above-at.ensures.reaches.is (omega (arith, high))

pub returns-in_err-merged-clause-to : goal.returns-in_err-merged-clause-to
returns-in_err-merged-clause-to g c =
    given_after c.walk_above-at.ensures.reaches c.join_child-merged.ensures.back
    c.give_back-2.ensures.gave

pub returns-then-branch-clause-to : goal.returns-then-branch-clause-to
returns-then-branch-clause-to g c =
    given_after c.walk_above-at.ensures.reaches c.join_child-merged.ensures.back
    c.give_back-2.ensures.gave

pub returns-else-branch-clause-to : goal.returns-else-branch-clause-to
returns-else-branch-clause-to g c =
    given_after c.walk_above-at.ensures.reaches c.join_child-merged.ensures.back
    c.give_back-2.ensures.gave

pub returns-then-at-level-clause-rests : goal.returns-then-at-level-clause-rests
returns-then-at-level-clause-rests g c e =
    rests_below c.walk_above-at.ensures.reaches c.if-at-level.true
    (c.walk_above-at.ensures.root c.if-at-level.true) c.give_back.ensures.gave

pub returns-then-branch-clause-rests : goal.returns-then-branch-clause-rests
returns-then-branch-clause-rests g c e = absurd (none_or_named _ _ e refl)

pub returns-then-at-level-clause-freed : goal.returns-then-at-level-clause-freed
returns-then-at-level-clause-freed g c above e = absurd (none_or_named _ above refl e)

pub returns-else-branch-clause-freed : goal.returns-else-branch-clause-freed
returns-else-branch-clause-freed g c above e = absurd (none_or_named _ above refl e)

pub returns-in_err-merged-clause-rests : goal.returns-in_err-merged-clause-rests
returns-in_err-merged-clause-rests g c e =
    let no = rw e at c.from_residual.ensures in absurd no.1

pub returns-in_err-merged-clause-freed : goal.returns-in_err-merged-clause-freed
returns-in_err-merged-clause-freed g c above e =
    let no = rw e at c.from_residual.ensures in absurd no.1

pub returns-then-branch-clause-freed : goal.returns-then-branch-clause-freed
returns-then-branch-clause-freed g c above e =
    frees_one c.walk_above-at.ensures.reaches c.give_back-2.ensures.gave
    (c.in_ok-merged.ensures.freed (ap Ok c.if-branch.true))

pub returns-else-branch-clause-rests : goal.returns-else-branch-clause-rests
returns-else-branch-clause-rests g c e =
    let at = c.walk_above-at.result in let v = view c.walk_above-at.new.pass in
    let i = c.args.index in let key = c.args.key.now.tuple in
    let is = c.walk_above-at.ensures.reaches.is in let high = c.if-at-level.false in
    let over : 0 < at.level = omega (arith, high) in
    let inner = holds_inner v i key 0 at is over in
    let above = c.walk_above-at.ensures.above (omega (arith, high)) in
    let lev = level_above v i key 0 at is over inner in
    rests_under c.walk_above-at.ensures.reaches c.give_back-2.ensures.gave inner (omega (arith, above, lev))
    (c.in_ok-merged.ensures.apart (ap Ok c.if-branch.false) inner)

pub returns-then-at-level-clause-own : goal.returns-then-at-level-clause-own
returns-then-at-level-clause-own g c = (
  passes_both c.args.pass.now c.walk_above-at.new.pass c.give_back.new.pass
      c.walk_above-at.ensures.own.0 c.give_back.ensures.own.0,
  c.give_back.ensures.own.1,
)

pub returns-in_err-merged-clause-own : goal.returns-in_err-merged-clause-own
returns-in_err-merged-clause-own g c = (
  passes_both c.args.pass.now c.walk_above-at.new.pass c.give_back-2.new.pass
      c.walk_above-at.ensures.own.0 (passes_both c.walk_above-at.new.pass
      c.join_child-merged.new.pass c.give_back-2.new.pass c.join_child-merged.ensures.own.0
      c.give_back-2.ensures.own.0),
  c.give_back-2.ensures.own.1,
)

pub returns-then-branch-clause-own : goal.returns-then-branch-clause-own
returns-then-branch-clause-own g c = (
  passes_both c.args.pass.now c.walk_above-at.new.pass c.give_back-2.new.pass
      c.walk_above-at.ensures.own.0 (passes_both c.walk_above-at.new.pass
      c.join_child-merged.new.pass c.give_back-2.new.pass c.join_child-merged.ensures.own.0
      c.give_back-2.ensures.own.0),
  c.give_back-2.ensures.own.1,
)

pub returns-else-branch-clause-own : goal.returns-else-branch-clause-own
returns-else-branch-clause-own g c = (
  passes_both c.args.pass.now c.walk_above-at.new.pass c.give_back-2.new.pass
      c.walk_above-at.ensures.own.0 (passes_both c.walk_above-at.new.pass
      c.join_child-merged.new.pass c.give_back-2.new.pass c.join_child-merged.ensures.own.0
      c.give_back-2.ensures.own.0),
  c.give_back-2.ensures.own.1,
)

pub returns-then-branch-clause-above : goal.returns-then-branch-clause-above
returns-then-branch-clause-above g c = let high = c.if-at-level.false in
    c.walk_above-at.ensures.above (omega (arith, high))
