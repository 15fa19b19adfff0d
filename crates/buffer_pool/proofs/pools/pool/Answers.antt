use Rattle.std.proofs.Common.{sym, subst, ◌∙◌}
use Rattle.latch_space.specs.Passes.{Shows}
use Rattle.forest_law.specs.declared.objects.Object.{Object}
use Rattle.forest_law.specs.declared.objects.Object.TheVariants as object
use Rattle.forest_law.specs.Numbers.{pool_id}
use Rattle.buffer_pool.proofs.FrameLemmas.{one_shown}
use Rattle.buffer_pool.proofs.PoolLemmas.{same_pool}
use Rattle.buffer_pool.proofs.pools.pool.Goals as goal

pub look-requires : goal.look-requires
look-requires c = let h = c.requires in
    subst (λ k. (x : Object) × Shows c.args.pass.now k x) (sym c.pool_id.ensures)
    (object.Pool h.1, h.2.value)

pub as_pool-requires : goal.as_pool-requires
as_pool-requires c = let h = c.requires in let p = c.args.pass.now in (
  h.1,
  one_shown p pool_id c.look.result.now (object.Pool h.1)
      (subst (λ k. Shows p k c.look.result.now) c.pool_id.ensures c.look.ensures) h.2.value,
)

pub returns : goal.returns
returns c = λ x y has. let p = c.args.pass.now in
    same_pool c.as_pool.result.now y
    (sym c.as_pool.ensures
    ∙ one_shown p pool_id c.look.result.now (object.Pool y)
    (subst (λ k. Shows p k c.look.result.now) c.pool_id.ensures c.look.ensures) has.value)
