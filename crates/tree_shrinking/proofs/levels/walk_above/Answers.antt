use Rattle.std.proofs.Common.{arith}
use Rattle.tree_growth.proofs.AddLemmas.{reaches_after}
use Rattle.buffer_pool.proofs.AgainLemmas.{passes_both}
use Rattle.tree_shrinking.proofs.levels.walk_above.Goals as goal

pub loop-at-preserved : goal.loop-at-preserved
loop-at-preserved g c =
    let p = c.args.pass.now in let q = c.loop-at.pass in let r = c.step_down-at.new.pass in
    record {
      same = passes_both p q r c.loop-at.invariant.same c.step_down-at.ensures.own.0;
      own = c.step_down-at.ensures.own.1;
      reaches = reaches_after p q r c.args.index c.args.key.now.tuple 0 c.step_down-at.result
          c.loop-at.invariant.reaches.goes c.step_down-at.ensures.reaches;
      root = λ low. (let deep = c.step_down-at.ensures.lower in let high = c.loop-at-test.true in
          absurd (omega (arith, deep, high, low)));
      fits = c.step_down-at.ensures.fits;
    }

pub loop-at-init : goal.loop-at-init
loop-at-init g c = let root = c.take_root-at.ensures in record {
  same = root.own.0;
  own = root.own.1;
  reaches = root.took;
  root = λ low. root.root;
  fits = root.fits;
}
