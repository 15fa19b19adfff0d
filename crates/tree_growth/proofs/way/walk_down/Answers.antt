use Rattle.std.proofs.Common.{ℕ, ◌≡◌, ◌+◌, ◌<◌, rules, arith}
use Rattle.tree_descent.proofs.PageLemmas.{may_give_back}
use Rattle.tree_growth.specs.Ways.{StopsOnWay}
use Rattle.tree_growth.proofs.AddLemmas.{reaches_after, stops_after}
use Rattle.tree_growth.proofs.AnswerLemmas.{err_more}
use Rattle.tree_growth.proofs.WalkLemmas.{walks_down}
use Rattle.tree_growth.proofs.way.walk_down.Goals as goal
use Rattle.buffer_pool.proofs.AgainLemmas.{passes_both}

pub returns-in_err-at-clause-err : goal.returns-in_err-at-clause-err
returns-in_err-at-clause-err g c =
    let p = c.args.pass.now in let q = c.take_root-root.new.pass in let r = c.grow_root.new.pass in
    let i = c.args.index in let key = c.args.key.now.tuple in
    err_more (λ e. StopsOnWay q i key e r) (λ e. StopsOnWay p i key e r) c.from_residual.result
    (λ e. stops_after p q r i key e c.take_root-root.ensures.took.goes) (search rules)

pub loop-at-init : goal.loop-at-init
loop-at-init g c =
    let p = c.args.pass.now in let q = c.take_root-root.new.pass in let r = c.grow_root.new.pass in
    record {
      same = passes_both p q r c.take_root-root.ensures.own.0 c.grow_root.ensures.own.0;
      own = c.grow_root.ensures.own.1;
      reaches = reaches_after p q r c.args.index c.args.key.now.tuple c.args.need c.in_ok-at.at
          c.take_root-root.ensures.took.goes c.in_ok-at.ensures.ok.reaches;
      fits = c.in_ok-at.ensures.ok.fits;
    }

pub give_back-requires-clause-held : goal.give_back-requires-clause-held
give_back-requires-clause-held g c = let reaches = c.loop-at.invariant.reaches in
    may_give_back c.loop-at.pass reaches.way.known c.loop-at.at.block c.args.index
    c.loop-at.at.level reaches.is.frame reaches.is.knows reaches.is.page.is

pub returns-in_err-at-2-clause-err : goal.returns-in_err-at-2-clause-err
returns-in_err-at-2-clause-err g c =
    let p = c.args.pass.now in let q = c.loop-at.pass in let r = c.grow_below.new.pass in
    let i = c.args.index in let key = c.args.key.now.tuple in
    err_more (λ e. StopsOnWay q i key e r) (λ e. StopsOnWay p i key e r) c.from_residual-in_err-at-2.result
    (λ e. stops_after p q r i key e c.loop-at.invariant.reaches.goes) (search rules)

-- a level that is one lower is lower
one_lower_level : (m n : ℕ) → m ≡ n + 1 → n < m
one_lower_level m n is = omega (arith, is)

pub loop-at-smaller : goal.loop-at-smaller
loop-at-smaller g c =
    one_lower_level c.loop-at.at.level c.in_ok-at-2.at.level c.in_ok-at-2.ensures.lower

pub loop-at-preserved : goal.loop-at-preserved
loop-at-preserved g c =
    let p = c.args.pass.now in let q = c.loop-at.pass in let r = c.grow_below.new.pass in
    record {
      same = passes_both p q r c.loop-at.invariant.same c.grow_below.ensures.own.0;
      own = c.grow_below.ensures.own.1;
      reaches = reaches_after p q r c.args.index c.args.key.now.tuple c.args.need c.in_ok-at-2.at
          c.loop-at.invariant.reaches.goes c.in_ok-at-2.ensures.ok.reaches;
      fits = c.in_ok-at-2.ensures.ok.fits;
    }

pub returns-clause-ok : goal.returns-clause-ok
returns-clause-ok g c =
    let bottom = c.loop-at-test.false in
    walks_down c.args.pass.now c.loop-at.pass c.give_back.new.pass c.args.index
    c.args.key.now.tuple c.args.need c.loop-at.at c.loop-at.invariant.reaches c.give_back.ensures.gave
    (omega (arith, bottom)) c.loop-at.invariant.fits

pub returns-in_err-at-clause-own : goal.returns-in_err-at-clause-own
returns-in_err-at-clause-own g c = (
  passes_both c.args.pass.now c.take_root-root.new.pass c.grow_root.new.pass
      c.take_root-root.ensures.own.0 c.grow_root.ensures.own.0,
  c.grow_root.ensures.own.1,
)

pub returns-in_err-at-2-clause-own : goal.returns-in_err-at-2-clause-own
returns-in_err-at-2-clause-own g c = (
  passes_both c.args.pass.now c.loop-at.pass c.grow_below.new.pass c.loop-at.invariant.same
      c.grow_below.ensures.own.0,
  c.grow_below.ensures.own.1,
)

pub returns-clause-own : goal.returns-clause-own
returns-clause-own g c = (
  passes_both c.args.pass.now c.loop-at.pass c.give_back.new.pass c.loop-at.invariant.same
      c.give_back.ensures.own.0,
  c.give_back.ensures.own.1,
)
