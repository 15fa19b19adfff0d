use Rattle.std.proofs.Common.{sym, subst, ap, refl, ◌∙◌, set, None}
use Rattle.latch_space.specs.Passes.{Shows, values}
use Rattle.forest_law.specs.declared.objects.Object.{Object}
use Rattle.forest_law.specs.declared.objects.Object.TheVariants as object
use Rattle.forest_law.specs.Numbers.{pool_id}
use Rattle.buffer_pool.proofs.FrameLemmas.{one_shown}
use Rattle.buffer_pool.proofs.PoolLemmas.{takes_pool_out}
use Rattle.buffer_pool.proofs.pools.pool_out.Goals as goal

pub take_out-requires : goal.take_out-requires
take_out-requires c = let h = c.requires.held in
    subst (λ k. (x : Object) × Shows c.args.pass.now k x) (sym c.pool_id.ensures)
    (object.Pool h.1, h.2.value)

pub into_pool-requires : goal.into_pool-requires
into_pool-requires c = let h = c.requires.held in let p = c.args.pass.now in (
  h.1,
  one_shown p pool_id c.take_out.result (object.Pool h.1)
      (subst (λ k. Shows p k c.take_out.result) c.pool_id.ensures c.take_out.ensures.value)
      h.2.value,
)

pub returns-clause-out : goal.returns-clause-out
returns-clause-out c = let p = c.args.pass.now in let number = c.pool_id.ensures in
    takes_pool_out p c.take_out.new.self c.take_out.ensures.seat None
    (c.take_out.ensures.values ∙ ap (λ k. set (values p) k None) number) c.into_pool.result refl
    (subst (Shows p pool_id) c.into_pool.ensures
    (subst (λ k. Shows p k c.take_out.result) number c.take_out.ensures.value))
