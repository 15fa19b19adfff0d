-- A row that gets another value of the same length.
use Rattle.std.specs.Prelude.{◌≡◌, ℕ, ◌<◌, ◌≤◌, List, ◌∷◌, ◌++◌, length, slice_index}
use Rattle.compact_record.specs.Record.{PlacedRecord}
use Rattle.page_mirror.specs.Mirror.{changed}
use Rattle.page_heap.specs.Heap.{cell_of}
use Rattle.index_page.specs.Rows.{Row, Bytes, placed_row}
use Rattle.page_rows.specs.Reading.{rows_in_bytes}
use Rattle.page_rows.specs.Slots.{sizes_in_bytes}
use Rattle.page_rows.specs.Spelling.{PageParts, IsPageOfRows}
use Rattle.page_rows.specs.Inserting.{gaps_in_bytes}
use Rattle.page_rows.specs.Deleting.{CanDeleteRow}

-- the record with another tail
abbrev pub with_tail : PlacedRecord → List ℕ → PlacedRecord
with_tail r tail = record r { tail = tail }

-- the page where record h has another tail
abbrev pub set_parts : PageParts → ℕ → List ℕ → PageParts
set_parts p h tail = record p {
  mirror = record (p.mirror) { cell = changed p.mirror.cell h (cell_of (with_tail (p.of h) tail)) };
  of = changed p.of h (with_tail (p.of h) tail);
}

-- the row stands there between these rows, and its value is as long as this one
pub record CanSetValue (bytes : List ℕ) (fields : ℕ) (left : List Row) (row : Row)
    (right : List Row) (place : ℕ) (value : List ℕ) : Type 0 where
  pub row_there : CanDeleteRow bytes fields left row right place
  pub before : List ℕ
  pub carries : row.body ≡ Bytes before
  pub long : length value ≡ length before

-- the row has this value; all other rows, the gaps, the slots and the bytes around the head's
-- numbers stay
pub record SetsInBytes (old new : List ℕ) (fields : ℕ) (left : List Row) (row : Row)
    (right : List Row) (value : List ℕ) : Type 0 where
  pub page : IsPageOfRows new fields
  pub rows : rows_in_bytes new fields ≡ left ++ placed_row row.place row.key (Bytes value) ∷ right
  pub gaps : gaps_in_bytes new fields ≡ gaps_in_bytes old fields
  pub slots : sizes_in_bytes new ≡ sizes_in_bytes old
  pub low : (k : ℕ) → k < 38 → slice_index new k ≡ slice_index old k
  pub high : (k : ℕ) → 56 ≤ k → k < 94 → slice_index new k ≡ slice_index old k
