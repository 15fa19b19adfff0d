-- What becomes of a pool in which a block gets an age, or loses it.
use Rattle.std.specs.Prelude.{ℕ, ◌≡◌, slice_set}
use Rattle.clock_law.specs.ModifyClock.{raised}
use Rattle.forest_law.specs.declared.objects.Pool.{Pool}

-- the pool's tick went one up, or stayed at its last value, and is the block's age; all else is as
-- it was
pub record IsAged (x : Pool) (b : ℕ) (y : Pool) : Type 0 where
  pub tick : y.tick ≡ raised x.tick
  pub ages : y.ages ≡ slice_set x.ages b y.tick
  pub place : y.place.items ≡ x.place.items
  pub images : y.images.items ≡ x.images.items

-- the block's age is 0, and all else is as it was
pub record IsAgeless (x : Pool) (b : ℕ) (y : Pool) : Type 0 where
  pub tick : y.tick ≡ x.tick
  pub ages : y.ages ≡ slice_set x.ages b 0
  pub place : y.place.items ≡ x.place.items
  pub images : y.images.items ≡ x.images.items
