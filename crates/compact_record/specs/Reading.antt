-- Records as they are read from the bytes of a page.
use Rattle.std.specs.Prelude.{◌≡◌, ℕ, zero, suc, ◌+◌, ◌-◌, ◌*◌, ◌/◌, ◌%◌, List, [], ◌∷◌, length, take, drop, slice_index, slice_range, nat_lt, if◌then◌else◌}
use Rattle.key_tuple.specs.Order.{FieldList, byte_count}
use Rattle.key_tuple.specs.Sizes.{length_size}
use Rattle.compact_record.specs.declared.kind.RecordKind.{RecordKind}
use Rattle.compact_record.specs.declared.kind.RecordKind.TheVariants.{Row, Pointer, LeftmostPointer}
use Rattle.compact_record.specs.declared.TheConstants.{HEAD_BYTES, CHILD_BYTES}
use Rattle.compact_record.specs.declared.reading.Part.{Part}
use Rattle.byteorder.specs.Endian.{big_number}
use Rattle.compact_record.specs.Bytes.{u16_at}
use Rattle.compact_record.specs.Kind.{kind_with, measured}
use Rattle.compact_record.specs.Record.{PlacedRecord, IsRecord, Stands, origin, lengths_bytes, measured_parts}

-- the length that ends at `top`
abbrev pub length_at : List ℕ → ℕ → ℕ
length_at bytes top =
    let last = slice_index bytes (top - 1) in
    if nat_lt 127 last then (last - 128) * 256 + slice_index bytes (top - 2) else last

-- so many fields: the first one's length ends at `top`, and its bytes begin at `from`
unfoldable pub fields_at : List ℕ → ℕ → ℕ → ℕ → FieldList
fields_at bytes top from zero = []
fields_at bytes top from (suc n) =
    let size = length_at bytes top in
    slice_range bytes from (from + size)
    ∷ fields_at bytes (top - length_size size) (from + size) n

-- how long a tail is: a row's length ends at `top`, a pointer's has none
abbrev pub tail_length : RecordKind → List ℕ → ℕ → ℕ
tail_length Row bytes top = length_at bytes top
tail_length Pointer bytes top = CHILD_BYTES
tail_length LeftmostPointer bytes top = CHILD_BYTES

-- the record of this kind at a place, with so many key fields
abbrev pub record_of : RecordKind → List ℕ → ℕ → ℕ → PlacedRecord
record_of kind bytes place fields =
    let top = place - HEAD_BYTES in
    let key = fields_at bytes top place fields in
    let from = place + byte_count key in
    let size = tail_length kind bytes (top - length (lengths_bytes key)) in
    let tail = slice_range bytes from (from + size) in
    record {
      start = top - length (lengths_bytes (measured kind key tail));
      kind = kind;
      heap_number = u16_at bytes (place - 4) / 8;
      key = key;
      tail = tail;
    }

-- the kind of the record at a place, by its status and its info bits
abbrev pub kind_in : List ℕ → ℕ → RecordKind
kind_in bytes place =
    kind_with (u16_at bytes (place - 4) % 8) (slice_index bytes (place - HEAD_BYTES) / 16)

-- the record at a place, with so many key fields
unfoldable pub record_at : List ℕ → ℕ → ℕ → PlacedRecord
record_at bytes place fields = record_of (kind_in bytes place) bytes place fields

-- that record stands at the place, and has so many key fields
pub record IsRecordAt (bytes : List ℕ) (place fields : ℕ) (r : PlacedRecord) : Type 0 where
  pub stands : Stands bytes r
  pub sound : IsRecord r
  pub here : origin r ≡ place
  pub count : length r.key ≡ fields

-- a record with so many key fields stands at the place
abbrev pub HasRecord : List ℕ → ℕ → ℕ → Type 0
HasRecord bytes place fields = IsRecordAt bytes place fields (record_at bytes place fields)

-- where the part of that number stands: its length ends where those of the parts after it begin,
-- and its bytes begin where those of the parts before it end
pub record IsPart (r : PlacedRecord) (number : ℕ) (part : Part) : Type 0 where
  pub top : part.top ≡ r.start + length (lengths_bytes (drop number (measured_parts r)))
  pub from : part.from ≡ origin r + byte_count (take number r.key)

-- the number that a pointer's tail spells
abbrev pub child_of : List ℕ → ℕ
child_of tail = big_number CHILD_BYTES tail
