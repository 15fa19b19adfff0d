-- A page's bytes as numbers, slots, and records under their heap numbers.
use Rattle.std.specs.Prelude.{◌≡◌, ℕ, ◌+◌, ◌*◌, ◌/◌, ◌<◌, ◌≤◌, List, length, slice_index, nat_eq, if◌then◌else◌}
use Rattle.compact_record.specs.Bytes.{u16_at}
use Rattle.page_mirror.specs.Cells.{Cell, StandsHere, origin_in, end_in, infimum, supremum}
use Rattle.page_mirror.specs.Words.{next_origin, owned_count, slot_word}

-- f, with the value v at i
abbrev pub changed : {X : Type 0} → (ℕ → X) → ℕ → X → ℕ → X
changed f i v k = if nat_eq k i then v else f k

-- what a page has: for each heap number below `count` its record, the heap number that it leads to
-- and how many records it owns; the heap number that each slot names; the numbers of the head; and
-- the bytes that are none of these
pub record Mirror : Type 0 where
  pub count : ℕ
  pub cell : ℕ → Cell
  pub next : ℕ → ℕ
  pub owned : ℕ → ℕ
  pub slots : List ℕ
  pub top : ℕ
  pub free : ℕ
  pub garbage : ℕ
  pub rows : ℕ
  pub fixed : ℕ → ℕ

-- the origin of record h
abbrev pub origin_of : Mirror → ℕ → ℕ
origin_of m h = origin_in (m.cell h)

-- infimum and supremum, then the others by ascending heap numbers, one behind the other up to `top`
pub record IsHeap (count : ℕ) (cell : ℕ → Cell) (top : ℕ) : Type 0 where
  pub some : 2 ≤ count
  pub first : cell 0 ≡ infimum
  pub second : cell 1 ≡ supremum
  pub numbered : (h : ℕ) → h < count → (cell h).number / 8 ≡ h
  pub apart : (h k : ℕ) → h < k → k < count → end_in (cell h) ≤ (cell k).start
  pub high : (h : ℕ) → h < count → end_in (cell h) ≤ top

-- the six numbers of the head
pub record HasHead (bytes : List ℕ) (slots top count free wasted rows : ℕ) : Type 0 where
  pub dir_slots : u16_at bytes 38 ≡ slots
  pub heap_top : u16_at bytes 40 ≡ top
  pub n_heap : u16_at bytes 42 ≡ 32768 + count
  pub first_free : u16_at bytes 44 ≡ free
  pub garbage : u16_at bytes 46 ≡ wasted
  pub n_recs : u16_at bytes 54 ≡ rows

-- the bytes around these numbers, and those behind the slots
pub record HasFixed (bytes : List ℕ) (fixed : ℕ → ℕ) : Type 0 where
  pub front : (k : ℕ) → k < 38 → slice_index bytes k ≡ fixed k
  pub middle : (k : ℕ) → 48 ≤ k → k < 54 → slice_index bytes k ≡ fixed k
  pub back : (k : ℕ) → 56 ≤ k → k < 94 → slice_index bytes k ≡ fixed k
  pub end : (k : ℕ) → 16376 ≤ k → slice_index bytes k ≡ fixed k

-- the record, the origin that it leads to, and how many records it owns
pub record HasCell (bytes : List ℕ) (c : Cell) (next owned : ℕ) : Type 0 where
  pub stands : StandsHere bytes c
  pub leads : next_origin bytes (origin_in c) ≡ next
  pub owns : owned_count bytes (origin_in c) ≡ owned

-- the bytes say what the mirror has, and between the records and the slots they are zero
pub record Mirrors (bytes : List ℕ) (m : Mirror) : Type 0 where
  pub len : length bytes ≡ 16384
  pub heap : IsHeap m.count m.cell m.top
  pub head : HasHead bytes (length m.slots) m.top m.count m.free m.garbage m.rows
  pub fixed : HasFixed bytes m.fixed
  pub leads : (h : ℕ) → h < m.count → m.next h < m.count
  pub cells : (h : ℕ) → h < m.count
      → HasCell bytes (m.cell h) (origin_of m (m.next h)) (m.owned h)
  pub names : (s : ℕ) → s < length m.slots → slice_index m.slots s < m.count
  pub slots : (s : ℕ) → s < length m.slots
      → slot_word bytes s ≡ origin_of m (slice_index m.slots s)
  pub room : m.top + 2 * length m.slots ≤ 16376
  pub unused : (k : ℕ) → m.top ≤ k → k + 2 * length m.slots < 16376 → slice_index bytes k ≡ 0
