-- Why a page doesn't take a row.
use Rattle.std.specs.Prelude.{ℕ, ◌≢◌, ◌+◌, ◌-◌, ◌==◌, Bool, false, ◌&&◌, ◌||◌, nat_lt, nat_le}
use Rattle.std.specs.Prelude.{Option, Some, None, option_and_then, if◌then◌else◌, List, length}
use Rattle.key_tuple.specs.Order.{FieldList}
use Rattle.index_page.specs.declared.TheConstants.{PAGE_ROOM}
use Rattle.index_page.specs.declared.error.PageError.{PageError}
use Rattle.index_page.specs.declared.error.PageError.TheVariants.{PageFull, Scattered}
use Rattle.index_page.specs.declared.room.Gaps.{Gaps}
use Rattle.index_page.specs.Rows.{RowBody, Bytes, Child, Row, find_row}
use Rattle.index_page.specs.Page.{PageRows}
use Rattle.index_page.specs.Loads.{charge_of, load_of}
use Rattle.index_page.specs.Changes.{page_without}

-- what is free on a page: its room less its load
abbrev pub free_of : PageRows → ℕ
free_of page = PAGE_ROOM - load_of page.rows

-- gaps that take any record
abbrev pub ample_gaps : Gaps
ample_gaps = record { head = PAGE_ROOM; rest = PAGE_ROOM }

-- where a page has bytes for a record. On this form of a page each row has bytes of its own
abbrev pub gaps_of : PageRows → Gaps
gaps_of page = ample_gaps

-- some gap takes a record of this size: the one that was left last, if it is as long, or what is
-- behind all records. Two more bytes have to be left there, by which the directory may grow
abbrev pub takes : Gaps → ℕ → Bool
takes gaps size = (nat_le size gaps.head && nat_le 2 gaps.rest) || nat_le (size + 2) gaps.rest

-- why a row that needs so much isn't taken, if it isn't: it needs more than is free, or no gap
-- takes its record, which is a byte less than it needs
abbrev pub room_refusal : ℕ → ℕ → Gaps → Option PageError
room_refusal need free gaps =
    if nat_lt free need then Some (PageFull need free)
    else (if takes gaps (need - 1) then None else Some (Scattered need gaps.rest))

-- why a new row isn't put in, if it isn't
abbrev pub insert_refusal : PageRows → FieldList → RowBody → Option PageError
insert_refusal page key body = room_refusal (charge_of key body) (free_of page) (gaps_of page)

-- the value is as long as the one that is there
abbrev pub is_as_long : List ℕ → RowBody → Bool
is_as_long value (Bytes before) = length value == length before
is_as_long value (Child number) = false

-- why the row at a place gets no other value, if it doesn't: never where that is as long as the one
-- before, and else as the new row isn't put in where the old one is gone, whose charge is then free
abbrev pub set_refusal : PageRows → ℕ → List ℕ → Option PageError
set_refusal page place value =
    option_and_then (λ (row : Row). if is_as_long value row.body then None
    else insert_refusal (page_without place page) row.key (Bytes value)) (find_row place page.rows)

-- on this form of a page no row is scattered
pub record NoneIsScattered : Type 0 where
  pub insert : (page : PageRows) (key : FieldList) (body : RowBody) (need run : ℕ)
      → insert_refusal page key body ≢ Some (Scattered need run)
  pub set : (page : PageRows) (place : ℕ) (value : List ℕ) (need run : ℕ)
      → set_refusal page place value ≢ Some (Scattered need run)
