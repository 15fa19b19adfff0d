-- A leaf in a frame, of which a row gets another value.
use Rattle.std.specs.Prelude.{ℕ, ◌≡◌, ◌<◌, ◌≤◌, ◌+◌, ◌==◌, Bool, if◌then◌else◌, Option, Some, IsSome, option_and_then, List, length, map}
use Rattle.std.specs.Option.{option_map}
use Rattle.key_tuple.specs.Order.{FieldList}
use Rattle.map_history.specs.Map.{Set, value_at}
use Rattle.index_page.specs.declared.error.PageError.{PageError}
use Rattle.index_page.specs.declared.TheConstants.{PAGE_ROOM}
use Rattle.index_page.specs.Changes.{page_without}
use Rattle.index_page.specs.Loads.{charge_of, load_of}
use Rattle.index_page.specs.Page.{PageRows, PlacesDiffer}
use Rattle.index_page.specs.Refusals.{set_refusal}
use Rattle.index_page.specs.Rows.{Bytes, Row, placed_row, find_row}
use Rattle.tree_law.specs.Pages.{row_pairs}
use Rattle.clock_law.specs.ModifyClock.{raised}
use Rattle.forest_law.specs.declared.objects.Frame.{Frame}
use Rattle.forest_law.specs.RowSteps.{SetsRow}
use Rattle.leaf_rows.specs.Changing.{HasRowOf, hashed_as}

-- the rows, of which the one at a place has this value
abbrev pub rows_with : ℕ → List ℕ → List Row → List Row
rows_with place value rows = map (λ (x : Row).
    if x.place == place then placed_row x.place x.key (Bytes value) else x) rows

-- the page with those rows
abbrev pub page_with : ℕ → List ℕ → PageRows → PageRows
page_with place value page = record page { rows = rows_with place value page.rows }

-- the clock, which stays where the value is as long as the one before, and else is one higher
abbrev pub clock_with : Bool → ℕ → ℕ
clock_with as_long clock = if as_long then clock else raised clock

-- the frame with that page and that clock
abbrev pub frame_with : ℕ → List ℕ → Bool → Frame → Frame
frame_with place value as_long f = record f {
  page = option_map (page_with place value) f.page;
  clock = clock_with as_long f.clock;
}

-- the value is no longer than that of the row at the place
abbrev pub IsNoLonger : Frame → ℕ → List ℕ → Type 0
IsNoLonger f place value = (key : FieldList) (has : HasRowOf f place key)
    → length value ≤ length has.has.value

-- the value is longer than that of the row at the place
abbrev pub IsLongerValue : Frame → ℕ → List ℕ → Type 0
IsLongerValue f place value = (key : FieldList) (has : HasRowOf f place key)
    → length has.has.value < length value

-- a row of the frame's leaf stood at the place and stands at the other now, and without it the leaf
-- is what it was without it
pub record MovesRowTo (f g : Frame) (place other : ℕ) : Type 0 where
  pub page : PageRows
  pub new : PageRows
  pub had : f.page ≡ Some page
  pub has : g.page ≡ Some new
  pub stood : IsSome (find_row place page.rows)
  pub stands : IsSome (find_row other new.rows)
  pub rest : page_without other new ≡ page_without place page

-- the key's row got this value, and all else in the frame is as before, but for its clock and perhaps
-- how it is hashed: as a map the leaf is what a set makes of it
pub record SetsValue (f g : Frame) (key : FieldList) (value : List ℕ) : Type 0 where
  pub page : PageRows
  pub new : PageRows
  pub before : List ℕ
  pub had : f.page ≡ Some page
  pub kept : g ≡ hashed_as g (record f { page = Some new; clock = g.clock })
  pub head : new.head ≡ page.head
  pub level : page.head.level ≡ 0
  pub has : value_at key (row_pairs page.rows) ≡ Some before
  pub sets : SetsRow (Set key value) page.rows new.rows f.clock g.clock
  pub places : PlacesDiffer new.rows

-- why the row at the place gets no other value, if it doesn't
abbrev pub value_refusal : Frame → ℕ → List ℕ → Option PageError
value_refusal f place value =
    option_and_then (λ (page : PageRows). set_refusal page place value) f.page

-- the key's row with this value has no room on the frame's page
pub record LacksRoomFor (f : Frame) (key : FieldList) (value : List ℕ) : Type 0 where
  pub page : PageRows
  pub paged : f.page ≡ Some page
  pub more : PAGE_ROOM < load_of page.rows + charge_of key (Bytes value)

-- a leaf, and its clock
pub record PageBefore : Type 0 where
  pub page : Option PageRows
  pub clock : ℕ

-- the frame with that leaf and clock
abbrev pub frame_before : PageBefore → Frame → Frame
frame_before before f = record f { page = before.page; clock = before.clock }
