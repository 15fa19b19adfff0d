use Rattle.std.proofs.Common.{refl}
use Rattle.buffer_pool.proofs.ages.touch.Goals as goal

pub returns : goal.returns
returns c = record {
  tick = c.saturating_add-pool.ensures;
  ages = c.set.ensures;
  place = refl;
  images = refl;
}
