use Rattle.std.proofs.Common.{sym, subst, ap, ◌∙◌}
use lib.ListN.{get_elem?}
use Rattle.latch_space.specs.Passes.{view}
use Rattle.forest_law.specs.declared.objects.Object.TheVariants as object
use Rattle.forest_law.specs.declared.objects.Pool.{Pool}
use Rattle.forest_law.specs.Numbers.{pool_id}
use Rattle.buffer_pool.specs.Forests.{IsFittedTree}
use Rattle.buffer_pool.specs.NewPages.{HasNoneFree}
use Rattle.buffer_pool.proofs.AgainLemmas.{passes_both}
use Rattle.buffer_pool.proofs.FullLemmas.{may_tell, finds_full}
use Rattle.buffer_pool.proofs.full.say_full.Goals as goal

pub read_point-requires-clause-rule : goal.read_point-requires-clause-rule
read_point-requires-clause-rule c = let h = c.requires.pool in
    let out = c.pool_out-pool.ensures.out in let o = out.out h.0 h.0 h.1 in
    may_tell c.full_pools_are_short.ensures (view c.pool_out-pool.new.pass) c.args.index o.0.held.0
    c.pool_out-pool.result
    (subst (λ (z : Pool). Rattle.latch_law.specs.Rule.Holds (view c.pool_out-pool.new.pass) pool_id
    (Rattle.latch_law.specs.Views.holding o.0.held.0 (object.Pool z))) (sym o.1) o.0.held.1)
    (subst HasNoneFree (sym o.1) h.2)

pub pool_back-requires-clause-out : goal.pool_back-requires-clause-out
pool_back-requires-clause-out c = let h = c.requires.pool in
    let o = c.pool_out-pool.ensures.out.out h.0 h.0 h.1 in let same = c.read_point.ensures.kept in (
      h.0,
      record {
        held = (o.0.held.0, ap (λ hs. get_elem? hs pool_id) same.held ∙ o.0.held.1);
        out = ap (λ vs. get_elem? vs pool_id) same.values ∙ o.0.out;
      },
    )

pub returns-clause-full : goal.returns-clause-full
returns-clause-full c = let h = c.requires.pool in
    finds_full c.args.pass.now c.pool_out-pool.new.pass c.read_point.new.pass c.pool_back.new.pass
    c.args.index c.read_point.result c.pool_out-pool.result h.0 h.1 c.requires.known
    c.pool_out-pool.ensures.out c.read_point.ensures.did c.read_point.ensures.kept
    c.pool_back.ensures.back

pub returns-clause-own : goal.returns-clause-own
returns-clause-own c = (
  passes_both c.args.pass.now c.pool_out-pool.new.pass c.pool_back.new.pass
      c.pool_out-pool.ensures.own.0 (passes_both c.pool_out-pool.new.pass c.read_point.new.pass
      c.pool_back.new.pass c.read_point.ensures.own.0 c.pool_back.ensures.own.0),
  c.pool_back.ensures.own.1,
)

pub pool_out-pool-requires-clause-held : goal.pool_out-pool-requires-clause-held
pool_out-pool-requires-clause-held c = let h = c.requires.pool in (h.0, h.0, h.1)

pub returns-clause-fits : goal.returns-clause-fits
returns-clause-fits c =
    subst IsFittedTree (sym c.pool_back.ensures.back.view) c.read_point.ensures.fits
