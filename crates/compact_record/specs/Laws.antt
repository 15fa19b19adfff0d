-- The laws of records in bytes.
use Rattle.std.specs.Prelude.{◌≡◌, ℕ, ◌+◌, ◌≤◌, ◌⊎◌, List}
use Rattle.compact_record.specs.Bytes.{SameOutside}
use Rattle.compact_record.specs.Record.{PlacedRecord, IsRecord, Stands, finish, record_size_of}
use Rattle.compact_record.specs.Reading.{record_at, IsRecordAt, HasRecord}

-- a record that stands at a place is the one that is read there
pub record RecordsReadBack : Type 0 where
  pub read : (bytes : List ℕ) (place fields : ℕ) (r : PlacedRecord)
      → IsRecordAt bytes place fields r → record_at bytes place fields ≡ r
  pub there : (bytes : List ℕ) (place fields : ℕ) (r : PlacedRecord)
      → IsRecordAt bytes place fields r → HasRecord bytes place fields

-- a record stays where a write is beside it, and takes the bytes that its key and its tail ask for
pub record RecordsStay : Type 0 where
  pub stays : (old new : List ℕ) (from to : ℕ) (r : PlacedRecord) → SameOutside old new from to
      → (finish r ≤ from) ⊎ (to ≤ r.start) → Stands old r → Stands new r
  pub size : (r : PlacedRecord) → IsRecord r
      → finish r ≡ r.start + record_size_of r.kind r.key r.tail
