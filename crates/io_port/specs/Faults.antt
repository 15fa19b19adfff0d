-- What a count of faults tells.
use Rattle.std.specs.Prelude.{◌≡◌, ℕ, ◌+◌, ◌-◌, ◌^◌, ◌<◌, ◌⊎◌, min}

-- between two moments a fault came: the count rose, or stands at its last value and can't rise
abbrev pub ShowsFault : ℕ → ℕ → Type 0
ShowsFault before now = (before < now) ⊎ (now + 1 ≡ 2 ^ 64)

-- one more, up to the last value, at which a count stays
abbrev pub next_count : ℕ → ℕ
next_count n = min (n + 1) (2 ^ 64 - 1)
