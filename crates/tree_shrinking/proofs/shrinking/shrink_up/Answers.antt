use Rattle.std.proofs.Common.{ℕ, ◌≡◌, ◌+◌, Option, IfSome, subst, Ok, ap, refl, arith}
use Rattle.tree_growth.proofs.AddLemmas.{goes_nowhere}
use Rattle.buffer_pool.proofs.AgainLemmas.{passes_both}
use Rattle.tree_shrinking.proofs.LeaveLemmas.{frees_more, walks_up}
use Rattle.tree_shrinking.proofs.WayLemmas.{to_both}
use Rattle.tree_shrinking.proofs.shrinking.shrink_up.Goals as goal

pub loop-init : goal.loop-init
loop-init g c = record {
  same = (refl, refl);
  own = c.requires.own.1;
  many = record {
    to = record { goes = goes_nowhere c.args.pass.now; way = c.requires.way };
    freed = omega arith;
  };
}

pub returns-in_err-above-clause-to : goal.returns-in_err-above-clause-to
returns-in_err-above-clause-to g c =
    to_both c.loop.invariant.many.to c.join_level.ensures.to

pub returns-in-None-2-clause-to : goal.returns-in-None-2-clause-to
returns-in-None-2-clause-to g c =
    to_both c.loop.invariant.many.to c.join_level.ensures.to

pub returns-in-None-2-clause-ok : goal.returns-in-None-2-clause-ok
returns-in-None-2-clause-ok g c =
    walks_up c.loop.invariant.many (c.in_ok-above.ensures.rests (ap Ok c.in-None-2.is))

pub loop-preserved : goal.loop-preserved
loop-preserved g c = record {
  same = passes_both c.args.pass.now c.loop.pass c.join_level.new.pass c.loop.invariant.same
      c.join_level.ensures.own.0;
  own = c.join_level.ensures.own.1;
  many = frees_more c.loop.invariant.many
      (c.in_ok-above.ensures.freed c.in-Some-2.above (ap Ok c.in-Some-2.is))
      (subst (λ (o : Option ℕ). IfSome o (λ n. n ≡ c.loop.level + 1)) c.in-Some-2.is
      c.in_ok-above.ensures.above);
}

pub returns-in_err-above-clause-own : goal.returns-in_err-above-clause-own
returns-in_err-above-clause-own g c = (
  passes_both c.args.pass.now c.loop.pass c.join_level.new.pass c.loop.invariant.same
      c.join_level.ensures.own.0,
  c.join_level.ensures.own.1,
)

pub returns-in-None-2-clause-own : goal.returns-in-None-2-clause-own
returns-in-None-2-clause-own g c = (
  passes_both c.args.pass.now c.loop.pass c.join_level.new.pass c.loop.invariant.same
      c.join_level.ensures.own.0,
  c.join_level.ensures.own.1,
)

pub returns-in_err-above-clause-fits : goal.returns-in_err-above-clause-fits
returns-in_err-above-clause-fits g c = c.join_level.ensures.fits

pub returns-in-None-2-clause-fits : goal.returns-in-None-2-clause-fits
returns-in-None-2-clause-fits g c = c.join_level.ensures.fits
