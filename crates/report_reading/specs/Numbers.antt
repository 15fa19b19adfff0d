-- Numbers of a line.
use Rattle.std.specs.Prelude.{ℕ, ◌^◌, nat_lt, Option, Some, None, if◌then◌else◌}

-- a number that fits 64 bits
abbrev pub small_number : ℕ → Option ℕ
small_number n = if nat_lt n (2 ^ 64) then Some n else None
