-- A key has the two digits of its lane.
use Rattle.std.proofs.Common.{◌≡◌, ℕ, ◌<◌, ◌/◌, List, get_or, ap, arith}
use Rattle.gen_law.specs.Drawing.{digit}
use Rattle.gen_law.specs.Lanes.{LanesHaveTheirOwnKeys}

-- a number below a hundred is told by its two digits
two_digits_tell : (n m : ℕ) → n < 100 → m < 100 → digit (n / 10) ≡ digit (m / 10) → digit n ≡ digit m → n ≡ m
two_digits_tell n m below below' tens ones = omega (arith, below, below', tens, ones)

pub own_keys : LanesHaveTheirOwnKeys
own_keys lane lane' drawn drawn' below below' same =
    two_digits_tell lane lane' below below' (ap (λ (key : List ℕ). get_or key 1 0) same) (ap (λ (key : List ℕ). get_or key 2 0) same)
