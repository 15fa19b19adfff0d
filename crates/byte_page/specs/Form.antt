-- A page in bytes as its head, its rows and its gaps.
use Rattle.std.specs.Prelude.{◌≡◌, ℕ, ◌+◌, ◌*◌, ◌<◌, ◌≤◌, Option, Some, None, List, nat_eq, slice_index, if◌then◌else◌}
use Rattle.key_tuple.specs.Order.{FieldList}
use Rattle.compact_record.specs.Bytes.{u16_at}
use Rattle.index_page.specs.declared.TheConstants.{NO_PAGE}
use Rattle.index_page.specs.declared.error.PageError.{PageError}
use Rattle.index_page.specs.declared.head.PageHead.{PageHead}
use Rattle.index_page.specs.declared.room.Gaps.{Gaps}
use Rattle.index_page.specs.Rows.{RowBody}
use Rattle.index_page.specs.Page.{PageRows, IsPageInOrder}
use Rattle.index_page.specs.Loads.{charge_of}
use Rattle.index_page.specs.Refusals.{free_of, room_refusal}
use Rattle.page_rows.specs.Reading.{rows_in_bytes}
use Rattle.page_rows.specs.Slots.{sizes_in_bytes}
use Rattle.page_rows.specs.Spelling.{IsPageOfRows}
use Rattle.page_rows.specs.Inserting.{gaps_in_bytes}

-- the number in the four bytes from `at` on, the most significant first
abbrev pub u32_at : List ℕ → ℕ → ℕ
u32_at bytes at = u16_at bytes at * 65536 + u16_at bytes (at + 2)

-- a neighbour by its number, if it is a page's
abbrev pub neighbour : ℕ → Option ℕ
neighbour number = if nat_eq number NO_PAGE then None else Some number

-- the head that the bytes spell
abbrev pub head_in_bytes : List ℕ → ℕ → PageHead
head_in_bytes bytes fields = record {
  number = u32_at bytes 4;
  index = u32_at bytes 70;
  level = u16_at bytes 64;
  prev = neighbour (u32_at bytes 8);
  next = neighbour (u32_at bytes 12);
  fields = fields;
}

-- the head and the rows that they spell
abbrev pub page_in_bytes : List ℕ → ℕ → PageRows
page_in_bytes bytes fields = record {
  head = head_in_bytes bytes fields;
  rows = rows_in_bytes bytes fields;
}

-- a page, where it has bytes for a record, how many bytes before HEAP_TOP are in no use, and how
-- many records the owner of each slot owns
pub record GappedPage : Type 0 where
  pub page : PageRows
  pub gaps : Gaps
  pub garbage : ℕ
  pub slots : List ℕ

-- what the bytes of a page are
abbrev pub form_in_bytes : List ℕ → ℕ → GappedPage
form_in_bytes bytes fields = record {
  page = page_in_bytes bytes fields;
  gaps = gaps_in_bytes bytes fields;
  garbage = u16_at bytes 46;
  slots = sizes_in_bytes bytes;
}

-- what holds of the bytes of each page: they spell rows, and these are in order
pub record IsBytePage (bytes : List ℕ) (fields : ℕ) : Type 0 where
  pub rows : IsPageOfRows bytes fields
  pub order : IsPageInOrder (page_in_bytes bytes fields)

-- why a new row isn't put in, if it isn't: by the room and by the gaps that the page has
abbrev pub gap_refusal : GappedPage → FieldList → RowBody → Option PageError
gap_refusal form key body = room_refusal (charge_of key body) (free_of form.page) form.gaps

-- the bytes around the head's numbers are the same
pub record SameFront (old new : List ℕ) : Type 0 where
  pub low : (k : ℕ) → k < 38 → slice_index new k ≡ slice_index old k
  pub high : (k : ℕ) → 56 ≤ k → k < 94 → slice_index new k ≡ slice_index old k
