-- Numbers of objects.
use Rattle.std.proofs.Common.{◌≢◌, ℕ, List}
use Rattle.std.specs.List.{AllByRecursion}

-- the number is none of these
abbrev pub IsNoneOf : ℕ → List ℕ → Type 0
IsNoneOf k ks = AllByRecursion (λ (j : ℕ). k ≢ j) ks
