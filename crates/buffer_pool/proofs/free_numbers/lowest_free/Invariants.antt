use Rattle.std.proofs.Common.{◌≢◌, ◌<◌, ℕ}
use Rattle.forest_law.specs.declared.objects.Where.TheVariants.{Free}
use Rattle.forest_law.specs.State.{where_at}
use Rattle.buffer_pool.proofs.free_numbers.lowest_free.Given as goal

abbrev pub invariant-loop-n : goal.invariant-loop-n
invariant-loop-n l = (m : ℕ) → m < l.n → where_at l.pool.place.items m ≢ Free
