-- Slots that move along at the page's end.
use Rattle.std.specs.Prelude.{◌≡◌, ℕ, ◌+◌, ◌-◌, ◌*◌, ◌<◌, ◌≤◌, List}
use Rattle.compact_record.specs.Bytes.{SameOutside}
use Rattle.page_mirror.specs.Words.{slot_word}

-- of `count` slots those from s on have moved on by one
pub record MovesOn (old new : List ℕ) (count s : ℕ) : Type 0 where
  pub moved : (k : ℕ) → s ≤ k → k < count → slot_word new (k + 1) ≡ slot_word old k
  pub kept : SameOutside old new (16374 - 2 * count) (16374 - 2 * s)

-- of `count` slots those from s on have moved on by one, and slot s names this origin
pub record OpensSlot (old new : List ℕ) (count s at : ℕ) : Type 0 where
  pub moved : (k : ℕ) → s ≤ k → k < count → slot_word new (k + 1) ≡ slot_word old k
  pub here : slot_word new s ≡ at
  pub kept : SameOutside old new (16374 - 2 * count) (16376 - 2 * s)

-- the slots behind s, below `end`, have moved back by one
pub record MovesBack (old new : List ℕ) (s end : ℕ) : Type 0 where
  pub moved : (k : ℕ) → s ≤ k → k + 1 < end → slot_word new k ≡ slot_word old (k + 1)
  pub kept : SameOutside old new (16378 - 2 * end) (16376 - 2 * s)

-- of `count` slots those behind s have moved back by one, and the last one's bytes are zero
pub record ClosesSlot (old new : List ℕ) (count s : ℕ) : Type 0 where
  pub moved : (k : ℕ) → s ≤ k → k + 1 < count → slot_word new k ≡ slot_word old (k + 1)
  pub gone : slot_word new (count - 1) ≡ 0
  pub kept : SameOutside old new (16376 - 2 * count) (16376 - 2 * s)
