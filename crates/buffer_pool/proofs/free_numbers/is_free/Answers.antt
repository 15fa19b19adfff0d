use Rattle.std.proofs.Common.{refl}
use Rattle.buffer_pool.proofs.free_numbers.is_free.Goals as goal

pub returns-in-Free : goal.returns-in-Free
returns-in-Free c = (λ _. c.in-Free.is, λ _. refl)
