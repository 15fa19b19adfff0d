use Rattle.std.proofs.Common.{◌≡◌, ◌-◌, ◌<◌, sym, subst, arith}
use Rattle.latch_space.specs.Passes.{view}
use Rattle.index_law.specs.Shape.{Shape}
use Rattle.forest_world.specs.Held.{shape_of_pass}
use Rattle.buffer_pool.proofs.AgainLemmas.{passes_both}
use Rattle.tree_descent.specs.Leaves.{HasCutWithin, cut_in}
use Rattle.tree_descent.specs.Ways.{GoesDown, LooksFor}
use Rattle.tree_descent.proofs.PageLemmas.{none_others, may_give_back}
use Rattle.tree_descent.proofs.WayLemmas.{looks_shape, looks_frames, looks_tables, ends_in_vain, way_shape, way_page, way_above, turns_back, finds_way}
use Rattle.tree_descent.proofs.ways.try_down.Given as given
use Rattle.tree_descent.proofs.ways.try_down.Goals as goal
use Rattle.tree_descent.proofs.ways.try_down.Goals.{After-leave-child, After-loop-level}

pub leave-child-requires-clause-held : goal.leave-child-requires-clause-held
leave-child-requires-clause-held g c = (
  c.loop-level.level - 1,
  way_page (way_above c.loop-level.invariant.way c.loop-level-test.true),
)

-- once a page above the leaves was left, the way looks for its child
looks : (g : given.Over) (c : After-leave-child g)
    → LooksFor c.args.pass.now
    (cut_in (shape_of_pass c.args.pass.now) c.args.index c.args.mode
    (g.T.Fields.fields_of c.args.tuple.now)) c.args.index (c.loop-level.level - 1)
    c.leave-child.result c.leave-child.new.pass
looks g c = c.leave-child.ensures.left c.args.pass.now (c.loop-level.level - 1)
    (way_above c.loop-level.invariant.way c.loop-level-test.true)

pub page_if-requires : goal.page_if-requires
page_if-requires g c =
    let looks = looks g (goal.at.page_if-requires g c).After-leave-child in record {
      own = (c.requires.own.0, c.leave-child.ensures.own.1);
      there = subst (λ (s : Shape). c.leave-child.result < s.pages) (sym (looks_shape looks))
          looks.below;
      others = none_others (view c.leave-child.new.pass) c.leave-child.ensures.fits
          (looks_frames looks c.requires.frames) c.leave-child.result;
      known = looks.silently.does.known;
      tables = looks_tables looks c.requires.tables;
      room = (let same = looks.count in let room = c.requires.room in omega (arith, same, room));
    }

pub returns-in_err-block-clause-tried : goal.returns-in_err-block-clause-tried
returns-in_err-block-clause-tried g c =
    let looks = looks g (goal.at.returns-in_err-block-clause-tried g c).After-leave-child in
    rw c.from_residual.ensures (ends_in_vain looks {r = c.page_if.new.pass}
    (rw c.in_err-block.was at c.page_if.ensures.did))

pub loop-level-preserved : goal.loop-level-preserved
loop-level-preserved g c = record {
  own = (
    passes_both c.args.pass.now c.loop-level.pass c.page_if.new.pass c.loop-level.invariant.own.0
        (passes_both c.loop-level.pass c.leave-child.new.pass c.page_if.new.pass
        c.leave-child.ensures.own.0 c.page_if.ensures.own.0),
    c.page_if.ensures.own.1,
  );
  way = finds_way (looks g (goal.at.loop-level-preserved g c).After-leave-child)
      c.page_if.ensures.fits (rw c.in_ok-block.was at c.page_if.ensures.did);
}

-- where the way ends it has come to a leaf
at_leaf : (g : given.Over) (c : After-loop-level g)
    → GoesDown c.args.pass.now
    (cut_in (shape_of_pass c.args.pass.now) c.args.index c.args.mode
    (g.T.Fields.fields_of c.args.tuple.now)) c.args.index 0 c.loop-level.block c.loop-level.pass
at_leaf g c = let down = c.loop-level-test.false in
    let leaf : c.loop-level.level ≡ 0 = omega (arith, down) in
    rw leaf at c.loop-level.invariant.way

pub is_within-requires-clause-held : goal.is_within-requires-clause-held
is_within-requires-clause-held g c = (
  0,
  way_page (at_leaf g (goal.at.is_within-requires-clause-held g c).After-loop-level),
)

pub returns-then-is_within-clause-tried : goal.returns-then-is_within-clause-tried
returns-then-is_within-clause-tried g c =
    let way = at_leaf g (goal.at.returns-then-is_within-clause-tried g c).After-loop-level in
    record {
      way = way;
      within = subst (λ (s : Shape). HasCutWithin way.frame
          (cut_in s c.args.index c.args.mode (g.T.Fields.fields_of c.args.tuple.now)))
          (way_shape way) (c.is_within.ensures c.if-is_within.true 0 (way_page way));
    }

pub give_back-requires-clause-held : goal.give_back-requires-clause-held
give_back-requires-clause-held g c =
    let way = at_leaf g (goal.at.give_back-requires-clause-held g c).After-loop-level in
    may_give_back c.loop-level.pass way.silently.does.known c.loop-level.block c.args.index 0
    way.frame way.knows way.page.is

pub returns-clause-tried : goal.returns-clause-tried
returns-clause-tried g c =
    turns_back (at_leaf g (goal.at.returns-clause-tried g c).After-loop-level)
    c.give_back.ensures.gave

pub returns-in_err-block-clause-own : goal.returns-in_err-block-clause-own
returns-in_err-block-clause-own g c = (
  passes_both c.args.pass.now c.loop-level.pass c.page_if.new.pass c.loop-level.invariant.own.0
      (passes_both c.loop-level.pass c.leave-child.new.pass c.page_if.new.pass
      c.leave-child.ensures.own.0 c.page_if.ensures.own.0),
  c.page_if.ensures.own.1,
)

pub returns-in_err-block-clause-fits : goal.returns-in_err-block-clause-fits
returns-in_err-block-clause-fits g c = c.page_if.ensures.fits

pub returns-then-is_within-clause-own : goal.returns-then-is_within-clause-own
returns-then-is_within-clause-own g c = c.loop-level.invariant.own

pub returns-clause-own : goal.returns-clause-own
returns-clause-own g c = (
  passes_both c.args.pass.now c.loop-level.pass c.give_back.new.pass
      c.loop-level.invariant.own.0 c.give_back.ensures.own.0,
  c.give_back.ensures.own.1,
)

pub returns-clause-fits : goal.returns-clause-fits
returns-clause-fits g c = c.give_back.ensures.fits
