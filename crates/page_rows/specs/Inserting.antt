-- A row that comes into a page.
use Rattle.std.specs.Prelude.{◌≡◌, ℕ, ◌+◌, ◌-◌, ◌*◌, ◌<◌, ◌≤◌, true, None, Some, List, [], ◌∷◌, ◌++◌, length, slice_index, nat_eq, if◌then◌else◌}
use Rattle.std.specs.List.{AllByRecursion}
use Rattle.key_tuple.specs.Order.{FieldList}
use Rattle.compact_record.specs.declared.kind.RecordKind.{RecordKind}
use Rattle.compact_record.specs.Bytes.{u16_at}
use Rattle.compact_record.specs.Record.{PlacedRecord, IsRecord, finish, record_size_of}
use Rattle.compact_record.specs.Reading.{record_at}
use Rattle.page_mirror.specs.Cells.{Cell}
use Rattle.page_mirror.specs.Mirror.{Mirror, changed}
use Rattle.page_mirror.specs.Steps.{HasOrigin}
use Rattle.page_heap.specs.Heap.{cell_of, record_from}
use Rattle.page_directory.specs.Groups.{records}
use Rattle.index_page.specs.declared.room.Gaps.{Gaps}
use Rattle.index_page.specs.Rows.{Row, find_row, last_row_after}
use Rattle.index_page.specs.Refusals.{takes}
use Rattle.page_rows.specs.Reading.{rows_in_bytes}
use Rattle.page_rows.specs.Spelling.{size_of_record, PageParts, SpellsRows, IsPageOfRows}

-- how long the record at the free list's head is, 0 where there is none
abbrev pub head_gap : List ℕ → ℕ → ℕ → ℕ
head_gap bytes fields at =
    if nat_eq at 0 then 0
    else finish (record_at bytes at fields) - (record_at bytes at fields).start

-- where the record at the free list's head begins, 0 where there is none
abbrev pub head_start : List ℕ → ℕ → ℕ → ℕ
head_start bytes fields at = if nat_eq at 0 then 0 else (record_at bytes at fields).start

-- where the page has bytes for a record
abbrev pub gaps_in_bytes : List ℕ → ℕ → Gaps
gaps_in_bytes bytes fields = record {
  head = head_gap bytes fields (u16_at bytes 44);
  rest = 16376 - 2 * u16_at bytes 38 - u16_at bytes 40;
}

-- the page with a record under heap number h, which leads to itself and owns none
abbrev pub taken_mirror : Mirror → ℕ → Cell → ℕ → ℕ → ℕ → ℕ → Mirror
taken_mirror m h c count top first garbage = record m {
  count = count;
  cell = changed m.cell h c;
  next = changed m.next h h;
  owned = changed m.owned h 0;
  top = top;
  free = first;
  garbage = garbage;
}

-- the same list, another free list, and this record under heap number h
abbrev pub taken_parts : PageParts → ℕ → PlacedRecord → ℕ → ℕ → ℕ → ℕ → List ℕ → PageParts
taken_parts p h r count top first garbage free = record {
  mirror = taken_mirror p.mirror h (cell_of r) count top first garbage;
  of = changed p.of h r;
  groups = p.groups;
  inner = p.inner;
  free = free;
}

-- a record of this kind, key and tail may be written: it takes so many bytes, and some gap has them
pub record CanTake (bytes : List ℕ) (fields : ℕ) (p : PageParts) (kind : RecordKind)
    (key : FieldList) (tail : List ℕ) (size : ℕ) : Type 0 where
  pub spells : SpellsRows bytes fields p []
  pub sound : IsRecord (record_from 0 0 kind key tail)
  pub count : length key ≡ fields
  pub size_is : size ≡ record_size_of kind key tail
  pub room : takes (gaps_in_bytes bytes fields) size ≡ true

-- the same, and there are so many bytes behind all records, and two more
pub record CanTakeBehind (bytes : List ℕ) (fields : ℕ) (p : PageParts) (kind : RecordKind)
    (key : FieldList) (tail : List ℕ) (size : ℕ) : Type 0 where
  pub take : CanTake bytes fields p kind key tail size
  pub fits : p.mirror.top + size + 2 + 2 * length p.mirror.slots ≤ 16376

-- the same, and the record at the free list's head is as long; two bytes are left behind all records
pub record CanTakeFree (bytes : List ℕ) (fields : ℕ) (p : PageParts) (kind : RecordKind)
    (key : FieldList) (tail : List ℕ) (size : ℕ) : Type 0 where
  pub take : CanTake bytes fields p kind key tail size
  pub h : ℕ
  pub rest : List ℕ
  pub free : p.free ≡ h ∷ rest
  pub long : size ≤ size_of_record (p.of h)
  pub left : p.mirror.top + 2 * length p.mirror.slots + 2 ≤ 16376

-- it stands at `at` under a heap number of its own, and no record but it and the free list changed
pub record IsTaken (bytes : List ℕ) (fields : ℕ) (p : PageParts) (kind : RecordKind)
    (key : FieldList) (tail : List ℕ) (at : ℕ) : Type 0 where
  pub h : ℕ
  pub start : ℕ
  pub count : ℕ
  pub top : ℕ
  pub first : ℕ
  pub garbage : ℕ
  pub free : List ℕ
  pub spells : SpellsRows bytes fields
      (taken_parts p h (record_from start h kind key tail) count top first garbage free) (h ∷ [])
  pub apart : AllByRecursion (λ k. k ≡ h → ⊥) (records p.groups ++ free)
  pub new_at : HasOrigin bytes
      (taken_mirror p.mirror h (cell_of (record_from start h kind key tail)) count top first
      garbage) h at
  pub room : top + 2 * length p.mirror.slots + 2 ≤ 16376

-- the place of the last of some rows, and that of infimum where there is none
abbrev pub place_before : List Row → ℕ
place_before [] = 99
place_before (x ∷ xs) = (last_row_after x xs).place

-- a row may come between these rows of the page, behind the place `before`
pub record CanInsertRow (bytes : List ℕ) (fields : ℕ) (below above : List Row) (before : ℕ)
    (kind : RecordKind) (key : FieldList) (tail : List ℕ) (size : ℕ) : Type 0 where
  pub page : IsPageOfRows bytes fields
  pub rows : rows_in_bytes bytes fields ≡ below ++ above
  pub before_is : before ≡ place_before below
  pub sound : IsRecord (record_from 0 0 kind key tail)
  pub count : length key ≡ fields
  pub size_is : size ≡ record_size_of kind key tail
  pub room : takes (gaps_in_bytes bytes fields) size ≡ true

-- the row stands there at a place at which none stood, and the bytes around the head's numbers stay
pub record InsertsInBytes (old new : List ℕ) (fields : ℕ) (below above : List Row) (row : Row)
    : Type 0 where
  pub page : IsPageOfRows new fields
  pub rows : rows_in_bytes new fields ≡ below ++ row ∷ above
  pub vacant : find_row row.place (rows_in_bytes old fields) ≡ None
  pub stands : find_row row.place (rows_in_bytes new fields) ≡ Some row
  pub low : (k : ℕ) → k < 38 → slice_index new k ≡ slice_index old k
  pub high : (k : ℕ) → 56 ≤ k → k < 94 → slice_index new k ≡ slice_index old k
