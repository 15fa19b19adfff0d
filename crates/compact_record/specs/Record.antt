-- What bytes a record is.
use Rattle.std.specs.Prelude.{◌≡◌, ℕ, ◌+◌, ◌-◌, ◌*◌, ◌/◌, ◌%◌, ◌<◌, ◌≤◌, List, [], ◌∷◌, ◌++◌, length, slice_index, All, nat_lt, if◌then◌else◌}
use Rattle.std.specs.List.{concat}
use Rattle.key_tuple.specs.Order.{FieldList, byte_count}
use Rattle.key_tuple.specs.Sizes.{row_size_of, pointer_size_of}
use Rattle.compact_record.specs.declared.kind.RecordKind.{RecordKind}
use Rattle.compact_record.specs.declared.kind.RecordKind.TheVariants.{Row, Pointer, LeftmostPointer}
use Rattle.compact_record.specs.declared.writing.RecordHead.{RecordHead}
use Rattle.compact_record.specs.declared.TheConstants.{HEAD_BYTES, CHILD_BYTES, HEAP_NUMBERS, LENGTH_LIMIT}
use Rattle.compact_record.specs.Bytes.{u16_at, SpellsAt, SameOutside}
use Rattle.compact_record.specs.Kind.{status_bits, info_bits, measured}

-- one length: itself up to 127, else its low byte and then 128 with the high bits
abbrev pub length_bytes : ℕ → List ℕ
length_bytes n = if nat_lt 127 n then (n % 256 ∷ (128 + n / 256) ∷ []) else n ∷ []

-- the lengths of some parts, the first one's last
abbrev pub lengths_bytes : FieldList → List ℕ
lengths_bytes [] = []
lengths_bytes (part ∷ parts) = lengths_bytes parts ++ length_bytes (length part)

-- a record at its place in a page: where its first byte is, what it is, its number among the page's
-- records, its key's fields, and its tail, which is a value's bytes or the four of a child's number
pub record PlacedRecord : Type 0 where
  pub start : ℕ
  pub kind : RecordKind
  pub heap_number : ℕ
  pub key : FieldList
  pub tail : List ℕ

-- a record with this head, its first byte at `start`
abbrev pub placed : ℕ → RecordHead → FieldList → List ℕ → PlacedRecord
placed start head key tail = record {
  start = start;
  kind = head.kind;
  heap_number = head.heap_number;
  key = key;
  tail = tail;
}

-- the parts of a record: its key's fields, and its tail
abbrev pub parts_of : PlacedRecord → FieldList
parts_of r = r.key ++ r.tail ∷ []

-- the parts of a record whose lengths are written
abbrev pub measured_parts : PlacedRecord → FieldList
measured_parts r = measured r.kind r.key r.tail

-- where the head ends and the key begins: this is the record's place
abbrev pub origin : PlacedRecord → ℕ
origin r = r.start + length (lengths_bytes (measured_parts r)) + HEAD_BYTES

-- where a record ends
abbrev pub finish : PlacedRecord → ℕ
finish r = origin r + byte_count r.key + length r.tail

-- how many bytes a record takes
abbrev pub record_size_of : RecordKind → FieldList → List ℕ → ℕ
record_size_of Row key tail = row_size_of key tail
record_size_of Pointer key tail = pointer_size_of key
record_size_of LeftmostPointer key tail = pointer_size_of key

-- what may be written: the number and the lengths are below their limits, and a child's number
-- takes four bytes
pub record IsRecord (r : PlacedRecord) : Type 0 where
  pub number : r.heap_number < HEAP_NUMBERS
  pub key : All (λ field. length field < LENGTH_LIMIT) r.key
  pub tail : length r.tail < LENGTH_LIMIT
  pub child : status_bits r.kind ≡ 1 → length r.tail ≡ CHILD_BYTES

-- the bytes are those of the record: its lengths, its head, its key and its tail. How many records
-- it owns and which one is next is said apart
pub record Stands (bytes : List ℕ) (r : PlacedRecord) : Type 0 where
  pub fits : finish r ≤ length bytes
  pub lengths : SpellsAt bytes r.start (lengths_bytes (measured_parts r))
  pub info : slice_index bytes (origin r - HEAD_BYTES) / 16 ≡ info_bits r.kind
  pub number : u16_at bytes (origin r - 4) ≡ r.heap_number * 8 + status_bits r.kind
  pub body : SpellsAt bytes (origin r) (concat r.key ++ r.tail)

-- the record is written, and nothing beside it: it owns no record, and leads to none
pub record WritesRecord (old new : List ℕ) (r : PlacedRecord) : Type 0 where
  pub stands : Stands new r
  pub owned : slice_index new (origin r - HEAD_BYTES) % 16 ≡ 0
  pub next : u16_at new (origin r - 2) ≡ 0
  pub kept : SameOutside old new r.start (finish r)
