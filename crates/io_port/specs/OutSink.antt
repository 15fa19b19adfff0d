-- What is told of a sink that writes in blocks.
use Rattle.std.specs.Prelude.{ℕ, List, Option}

-- what the writer holds and then what is kept back, where the writer tells; and the puts that
-- failed
pub record OutState : Type 0 where
  pub told : Option (List ℕ)
  pub faults : ℕ
