-- The lowest age of each run of 64 blocks.
use Rattle.std.specs.Prelude.{ℕ, ◌≡◌, ◌+◌, ◌*◌, ◌/◌, ◌<◌, ◌≤◌, List, length, get_or, min}

-- the run in which a block is
abbrev pub run_of : ℕ → ℕ
run_of b = b / 64

-- where a run of so many blocks ends
abbrev pub end_of : (count run : ℕ) → ℕ
end_of count run = min count (run * 64 + 64)

-- a block of the run, of those whose ages these are, has this age
pub record IsAgeIn (ages : List ℕ) (run age : ℕ) : Type 0 where
  pub block : ℕ
  pub below : block < length ages
  pub within : run_of block ≡ run
  pub is : get_or ages block 0 ≡ age

-- of each run there is one that is the age of a block of it, and no block of it has a lower one
pub record AreLows (ages lows : List ℕ) : Type 0 where
  pub counted : (b : ℕ) → b < length ages → run_of b < length lows
  pub each : (run : ℕ) → run < length lows → IsAgeIn ages run (get_or lows run 0)
  pub least : (b : ℕ) → b < length ages → get_or lows (run_of b) 0 ≤ get_or ages b 0

-- of a range of numbers the one there is the lowest, and of several the first
pub record IsLowestIn (numbers : List ℕ) (from to at : ℕ) : Type 0 where
  pub above : from ≤ at
  pub below : at < to
  pub least : (i : ℕ) → from ≤ i → i < to → get_or numbers at 0 ≤ get_or numbers i 0
  pub first : (i : ℕ) → from ≤ i → i < at → get_or numbers at 0 < get_or numbers i 0
