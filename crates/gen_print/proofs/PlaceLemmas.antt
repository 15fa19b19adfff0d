-- A lane's replies at their place, as the loop reads them.
use Rattle.std.proofs.Common.{◌≡◌, ℕ, zero, suc, ◌+◌, ◌<◌, Some, List, [], ◌∷◌, length, get_or, refl, arith}
use Rattle.std.specs.List.{slice_get, enumerate_from}
use Rattle.std.proofs.lemmas.Option.{slice_get-get_or}
use Rattle.list_facts.proofs.Places.{one_at}

-- an element, with the number of its place
numbered_there : {X : Type 0} (k n i : ℕ) (xs : List X) (x : X) → n ≡ k + i → slice_get xs i ≡ Some x → slice_get (enumerate_from k xs) i ≡ Some (n, x)
numbered_there k n i [] x is at = absurd cc
numbered_there k n zero (y ∷ xs) x is at = let same : k ≡ n = omega arith in let one = one_at (y ∷ xs) zero y x refl at in λ j. Some (same j, one j)
numbered_there k n (suc i) (y ∷ xs) x is at = numbered_there (k + 1) n i xs x (omega arith) at

pub lane_there : {X : Type 0} (xs : List X) (i : ℕ) (d : X) → i < length xs → slice_get (enumerate_from 1 xs) i ≡ Some (i + 1, get_or xs i d)
lane_there xs i d below = numbered_there 1 (i + 1) i xs (get_or xs i d) (omega arith) (slice_get-get_or xs i d below)
