-- A row that comes behind all others of a page.
use Rattle.std.specs.Prelude.{◌≡◌, ℕ, ◌+◌, ◌<◌, ◌≤◌, List, [], length}
use Rattle.key_tuple.specs.Order.{FieldList}
use Rattle.compact_record.specs.declared.kind.RecordKind.{RecordKind}
use Rattle.compact_record.specs.Bytes.{u16_at}
use Rattle.compact_record.specs.Record.{IsRecord, record_size_of}
use Rattle.page_heap.specs.Heap.{record_from}
use Rattle.index_page.specs.declared.TheConstants.{PAGE_ROOM, MAX_CHARGE}
use Rattle.index_page.specs.Rows.{Row}
use Rattle.index_page.specs.Loads.{load_of}
use Rattle.page_rows.specs.Reading.{rows_in_bytes}
use Rattle.page_rows.specs.Spelling.{IsPageOfRows}
use Rattle.page_rows.specs.Inserting.{place_before, InsertsInBytes}

-- a row may come behind the last one, whose place is `before`: there is room for it, and no bytes
-- before HEAP_TOP are in no use
pub record CanAppendRow (bytes : List ℕ) (fields before : ℕ) (kind : RecordKind) (key : FieldList)
    (tail : List ℕ) (size : ℕ) : Type 0 where
  pub page : IsPageOfRows bytes fields
  pub tight : u16_at bytes 46 ≡ 0
  pub before_is : before ≡ place_before (rows_in_bytes bytes fields)
  pub sound : IsRecord (record_from 0 0 kind key tail)
  pub count : length key ≡ fields
  pub size_is : size ≡ record_size_of kind key tail
  pub room : load_of (rows_in_bytes bytes fields) + size + 1 ≤ PAGE_ROOM
  pub small : size < MAX_CHARGE

-- the row stands behind all others, and as before no bytes are in no use
pub record AppendsInBytes (old new : List ℕ) (fields : ℕ) (row : Row) : Type 0 where
  pub inserts : InsertsInBytes old new fields (rows_in_bytes old fields) [] row
  pub tight : u16_at new 46 ≡ 0
