use Rattle.std.proofs.Common.{ap, refl, ◌∙◌, set, Some}
use lib.ListN.{get_elem?}
use Rattle.latch_space.specs.Hands.{has_value, is_held}
use Rattle.latch_space.specs.Passes.{view, values}
use Rattle.forest_law.specs.declared.objects.Object.TheVariants as object
use Rattle.buffer_pool.proofs.PoolLemmas.{puts_pool_back}
use Rattle.buffer_pool.proofs.pools.pool_back.Goals as goal

pub put_back-requires-clause-held : goal.put_back-requires-clause-held
put_back-requires-clause-held c =
    ap (λ k. is_held (view c.args.pass.now).held k) c.pool_id.ensures
    ∙ ap has_value c.requires.out.1.held.1

pub put_back-requires-clause-out : goal.put_back-requires-clause-out
put_back-requires-clause-out c =
    ap (get_elem? (values c.args.pass.now)) c.pool_id.ensures ∙ c.requires.out.1.out

pub returns-clause-back : goal.returns-clause-back
returns-clause-back c = let p = c.args.pass.now in
    puts_pool_back p c.put_back.new.self c.put_back.ensures.seat (Some (object.Pool c.args.pool))
    (c.put_back.ensures.values
    ∙ ap (λ k. set (values p) k (Some (object.Pool c.args.pool))) c.pool_id.ensures)
    c.args.pool refl
