-- Records as the bytes that they are.
use Rattle.std.specs.Prelude.{◌≡◌, ℕ, ◌+◌, ◌-◌, ◌/◌, ◌≤◌, List, [], ◌∷◌, length, slice_index}
use Rattle.compact_record.specs.Bytes.{u16_at, SpellsAt}

-- a record at its place: where it starts, the bytes of its lengths, its info bits, its heap number
-- with its status, and the bytes of its fields
pub record Cell : Type 0 where
  pub start : ℕ
  pub lengths : List ℕ
  pub info : ℕ
  pub number : ℕ
  pub body : List ℕ

-- behind the lengths five bytes are the record's head, and there its origin is
abbrev pub origin_in : Cell → ℕ
origin_in c = c.start + length c.lengths + 5

-- where the bytes behind the record begin
abbrev pub end_in : Cell → ℕ
end_in c = origin_in c + length c.body

-- the bytes are those of the record; which one it leads to and how many it owns is said apart
pub record StandsHere (bytes : List ℕ) (c : Cell) : Type 0 where
  pub fits : end_in c ≤ length bytes
  pub lengths : SpellsAt bytes c.start c.lengths
  pub info : slice_index bytes (origin_in c - 5) / 16 ≡ c.info
  pub number : u16_at bytes (origin_in c - 4) ≡ c.number
  pub body : SpellsAt bytes (origin_in c) c.body

-- the record before all others: the number 0, the status 2, and "infimum" with a zero byte
abbrev pub infimum : Cell
infimum = record {
  start = 94;
  lengths = [];
  info = 0;
  number = 2;
  body = 105 ∷ 110 ∷ 102 ∷ 105 ∷ 109 ∷ 117 ∷ 109 ∷ 0 ∷ [];
}

-- the record behind all others: the number 1, the status 3, and "supremum"
abbrev pub supremum : Cell
supremum = record {
  start = 107;
  lengths = [];
  info = 0;
  number = 11;
  body = 115 ∷ 117 ∷ 112 ∷ 114 ∷ 101 ∷ 109 ∷ 117 ∷ 109 ∷ [];
}
