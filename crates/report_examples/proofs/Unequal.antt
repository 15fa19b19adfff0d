-- Lists that are of unequal length.
use Rattle.std.proofs.Common.{◌≡◌, ◌==◌, ℕ, false, List, length, ap, arith}
use Rattle.std.proofs.lemmas.Bool.Decides.{nat_tests}

other_number : (m n : ℕ) → m ≡ n → (m == n) ≡ false → ⊥
other_number m n same other = absurd (grind (arith, nat_tests))

pub unequal : {A : Type 0} (xs ys : List A) → xs ≡ ys → (length xs == length ys) ≡ false → ⊥
unequal xs ys same other = other_number (length xs) (length ys) (ap length same) other
