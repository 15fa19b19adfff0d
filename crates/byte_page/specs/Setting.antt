-- A row that gets another value.
use Rattle.std.specs.Prelude.{◌≡◌, ℕ, ◌+◌, ◌-◌, ◌==◌, Option, Some, None, option_and_then, if◌then◌else◌, List, [], ◌∷◌, ◌++◌, length}
use Rattle.index_page.specs.declared.error.PageError.{PageError}
use Rattle.index_page.specs.declared.error.PageError.TheVariants.{PageFull}
use Rattle.index_page.specs.declared.room.Gaps.{Gaps}
use Rattle.index_page.specs.Rows.{Row, Bytes, placed_row, find_row}
use Rattle.index_page.specs.Page.{PageRows}
use Rattle.index_page.specs.Loads.{charge_of}
use Rattle.index_page.specs.Changes.{Sets, page_without}
use Rattle.index_page.specs.Refusals.{free_of, room_refusal, is_as_long, set_refusal}
use Rattle.page_rows.specs.Deleting.{gaps_after}
use Rattle.byte_page.specs.Form.{GappedPage}

-- how many rows stand before the one at a place
abbrev pub rows_before : ℕ → List Row → ℕ
rows_before place [] = 0
rows_before place (x ∷ xs) = if x.place == place then 0 else rows_before place xs + 1

-- the gaps of the page once this row of it is gone
abbrev pub gaps_less : GappedPage → Row → Gaps
gaps_less form row = gaps_after form.gaps form.slots (rows_before row.place form.page.rows)
    (charge_of row.key row.body - 1)

-- why the row at a place gets no other value, if it doesn't: never where that is as long as the one
-- before, and else as the new row isn't put in where the old one is gone, whose charge is then free
-- and whose record is a gap
abbrev pub gap_refusal_to_set : GappedPage → ℕ → List ℕ → Option PageError
gap_refusal_to_set form place value =
    option_and_then (λ (row : Row). if is_as_long value row.body then None
    else room_refusal (charge_of row.key (Bytes value)) (free_of (page_without place form.page))
    (gaps_less form row)) (find_row place form.page.rows)

-- the row that stood at `place` stands at `other` with this value, and where that is as long as the
-- value before, it stays; all else is as before
pub record SetsAgain (old new : PageRows) (place other : ℕ) (value : List ℕ) : Type 0 where
  pub left : List Row
  pub row : Row
  pub right : List Row
  pub was : old.rows ≡ left ++ row ∷ right
  pub place_is : row.place ≡ place
  pub is : new.rows ≡ left ++ placed_row other row.key (Bytes value) ∷ right
  pub stands : find_row other new.rows ≡ Some (placed_row other row.key (Bytes value))
  pub stays : (before : List ℕ) → row.body ≡ Bytes before → length value ≡ length before
      → other ≡ place
  pub head : new.head ≡ old.head

-- what a plain page's `set` does is what a page in bytes may do; and the page is full for the one
-- where it is for the other, with the same numbers
pub record SetsAgree : Type 0 where
  pub done : (old new : PageRows) (place other : ℕ) (value : List ℕ)
      → Sets old new place other value → SetsAgain old new place other value
  pub full : (form : GappedPage) (place : ℕ) (value : List ℕ) (need free : ℕ)
      → set_refusal form.page place value ≡ Some (PageFull need free)
      → gap_refusal_to_set form place value ≡ Some (PageFull need free)
  pub no_more : (form : GappedPage) (place : ℕ) (value : List ℕ) (need free : ℕ)
      → gap_refusal_to_set form place value ≡ Some (PageFull need free)
      → set_refusal form.page place value ≡ Some (PageFull need free)
