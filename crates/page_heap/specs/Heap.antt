-- Records that are written into a page.
use Rattle.std.specs.Prelude.{◌≡◌, ℕ, ◌+◌, ◌*◌, ◌<◌, ◌≤◌, List, ◌++◌, length, slice_index}
use Rattle.std.specs.List.{concat}
use Rattle.key_tuple.specs.Order.{FieldList}
use Rattle.compact_record.specs.declared.kind.RecordKind.{RecordKind}
use Rattle.compact_record.specs.Kind.{status_bits, info_bits}
use Rattle.compact_record.specs.Record.{PlacedRecord, IsRecord, finish, lengths_bytes, measured_parts}
use Rattle.page_mirror.specs.Cells.{Cell, end_in}
use Rattle.page_mirror.specs.Mirror.{Mirror, Mirrors, changed}

-- a record as the bytes that it is
abbrev pub cell_of : PlacedRecord → Cell
cell_of r = record {
  start = r.start;
  lengths = lengths_bytes (measured_parts r);
  info = info_bits r.kind;
  number = r.heap_number * 8 + status_bits r.kind;
  body = concat r.key ++ r.tail;
}

-- a record of this kind with its first byte at `start`
abbrev pub record_from : ℕ → ℕ → RecordKind → FieldList → List ℕ → PlacedRecord
record_from start number kind key tail = record {
  start = start;
  kind = kind;
  heap_number = number;
  key = key;
  tail = tail;
}

-- one record more, behind all others; it leads to itself, and owns none
abbrev pub enlarged : Mirror → Cell → Mirror
enlarged m c = record m {
  count = m.count + 1;
  cell = changed m.cell m.count c;
  next = changed m.next m.count m.count;
  owned = changed m.owned m.count 0;
  top = end_in c;
}

-- another record under heap number h; it leads to itself, and owns none
abbrev pub rewritten : Mirror → ℕ → Cell → Mirror
rewritten m h c = record m {
  cell = changed m.cell h c;
  next = changed m.next h h;
  owned = changed m.owned h 0;
}

-- the record goes behind all others, and fits there
pub record FitsBehind (bytes : List ℕ) (m : Mirror) (r : PlacedRecord) : Type 0 where
  pub is : Mirrors bytes m
  pub sound : IsRecord r
  pub start : r.start ≡ m.top
  pub number : r.heap_number ≡ m.count
  pub fits : finish r + 2 * length m.slots ≤ 16376

-- the record goes where the old one of heap number h is, and is no longer: no other record leads
-- there, and no slot names it
pub record FitsInPlace (bytes : List ℕ) (m : Mirror) (fields h : ℕ) (old r : PlacedRecord)
    : Type 0 where
  pub is : Mirrors bytes m
  pub within : h < m.count
  pub behind : 2 ≤ h
  pub was : m.cell h ≡ cell_of old
  pub was_sound : IsRecord old
  pub count : length old.key ≡ fields
  pub sound : IsRecord r
  pub start : r.start ≡ old.start
  pub number : r.heap_number ≡ h
  pub fits : finish r ≤ finish old
  pub unled : (k : ℕ) → k < m.count → (k ≡ h → ⊥) → m.next k ≡ h → ⊥
  pub unnamed : (s : ℕ) → s < length m.slots → slice_index m.slots s ≡ h → ⊥
