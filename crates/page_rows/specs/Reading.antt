-- Rows as they are read from the bytes of a page.
use Rattle.std.specs.Prelude.{ℕ, zero, suc, List, [], ◌∷◌, map}
use Rattle.compact_record.specs.declared.kind.RecordKind.{RecordKind}
use Rattle.compact_record.specs.declared.kind.RecordKind.TheVariants as kinds
use Rattle.compact_record.specs.Bytes.{u16_at}
use Rattle.compact_record.specs.Record.{PlacedRecord}
use Rattle.compact_record.specs.Reading.{record_at, child_of}
use Rattle.page_mirror.specs.Words.{next_origin}
use Rattle.index_page.specs.Rows.{Row, RowBody, Bytes, Child, placed_row}

-- so many places, each of which the one before it leads to
unfoldable pub places_from : List ℕ → ℕ → ℕ → List ℕ
places_from bytes at zero = []
places_from bytes at (suc n) = at ∷ places_from bytes (next_origin bytes at) n

-- what a row of this kind carries with this tail: a value, or the number of a child
abbrev pub body_of_kind : RecordKind → List ℕ → RowBody
body_of_kind kinds.Row tail = Bytes tail
body_of_kind kinds.Pointer tail = Child (child_of tail)
body_of_kind kinds.LeftmostPointer tail = Child (child_of tail)

-- a record's row: its key, and what its tail carries
abbrev pub row_of_record : ℕ → PlacedRecord → Row
row_of_record place r = placed_row place r.key (body_of_kind r.kind r.tail)

-- the row at a place
abbrev pub row_in_bytes : List ℕ → ℕ → ℕ → Row
row_in_bytes bytes fields place = row_of_record place (record_at bytes place fields)

-- as many rows as the head says, from the one that infimum leads to
abbrev pub rows_in_bytes : List ℕ → ℕ → List Row
rows_in_bytes bytes fields =
    map (row_in_bytes bytes fields) (places_from bytes (next_origin bytes 99) (u16_at bytes 54))
