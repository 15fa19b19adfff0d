-- Numbers and strings of bytes in a page, and what a write leaves as it was.
use Rattle.std.specs.Prelude.{◌≡◌, ℕ, ◌+◌, ◌*◌, ◌<◌, ◌≤◌, List, length, slice_index}

-- the number in the two bytes from `at` on, the most significant first
abbrev pub u16_at : List ℕ → ℕ → ℕ
u16_at bytes at = slice_index bytes at * 256 + slice_index bytes (at + 1)

-- the bytes from `at` on begin with `part`
pub record SpellsAt (bytes : List ℕ) (at : ℕ) (part : List ℕ) : Type 0 where
  pub each : (k : ℕ) → k < length part → slice_index bytes (at + k) ≡ slice_index part k

-- the new bytes are the old ones but from `from` up to `to`
pub record SameOutside (old new : List ℕ) (from to : ℕ) : Type 0 where
  pub len : length new ≡ length old
  pub below : (k : ℕ) → k < from → slice_index new k ≡ slice_index old k
  pub above : (k : ℕ) → to ≤ k → slice_index new k ≡ slice_index old k

-- the bytes of `part` are written from `from` up to `to`, and nothing else is
pub record PutsPart (old new part : List ℕ) (from to : ℕ) : Type 0 where
  pub end : to ≡ from + length part
  pub spells : SpellsAt new from part
  pub kept : SameOutside old new from to
