-- What is told of a shelf of real files and of standard output: their faults alone.
use Rattle.std.specs.Prelude.{ℕ, List, Option, Some}
use Rattle.io_port.specs.Faults.{next_count}

-- the count of loads that failed, and the name of the last of them
pub record LoadFaults : Type 0 where
  pub faults : ℕ
  pub failed : Option (List ℕ)

-- after one more load that failed
abbrev pub after_failure : LoadFaults → List ℕ → LoadFaults
after_failure shelf name = record { faults = next_count shelf.faults; failed = Some name }
