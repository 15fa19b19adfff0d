-- A leaf in a frame, with a row more or a row less.
use Rattle.std.specs.Prelude.{ℕ, ◌≡◌, ◌<◌, Option, Some, None, option_and_then, List}
use Rattle.std.specs.Option.{option_map}
use Rattle.key_tuple.specs.Order.{FieldList}
use Rattle.map_history.specs.Map.{Put, Del, value_at}
use Rattle.index_page.specs.declared.error.PageError.{PageError}
use Rattle.index_page.specs.declared.error.PageError.TheVariants.{PageFull}
use Rattle.index_page.specs.declared.spot.Spot.{Spot}
use Rattle.index_page.specs.Changes.{page_without}
use Rattle.index_page.specs.Loads.{charge_of}
use Rattle.index_page.specs.Page.{PageRows, IsPageInOrder}
use Rattle.index_page.specs.Refusals.{free_of, insert_refusal}
use Rattle.index_page.specs.Rows.{Bytes, placed_row, find_row}
use Rattle.tree_law.specs.Pages.{row_pairs}
use Rattle.clock_law.specs.ModifyClock.{raised}
use Rattle.forest_law.specs.declared.objects.Frame.{Frame}
use Rattle.forest_law.specs.RowSteps.{InsertsRow, DeletesRow}
use Rattle.page_view.specs.Finding.{HasSpot, HasRow}

-- the frame has a leaf that lacks the key, which belongs at the spot
pub record LacksRow (f : Frame) (key : FieldList) (spot : Spot) : Type 0 where
  pub page : PageRows
  pub paged : f.page ≡ Some page
  pub spot_is : HasSpot page key spot
  pub absent : value_at key (row_pairs page.rows) ≡ None

-- why the frame's page takes no row of this key and value, if it doesn't
abbrev pub row_refusal : Frame → FieldList → List ℕ → Option PageError
row_refusal f key value =
    option_and_then (λ (page : PageRows). insert_refusal page key (Bytes value)) f.page

-- the error says that the key's row needs more than is free, and how much either is
pub record IsFullFor (f : Frame) (key : FieldList) (value : List ℕ) (e : PageError) : Type 0 where
  pub page : PageRows
  pub paged : f.page ≡ Some page
  pub more : free_of page < charge_of key (Bytes value)
  pub is : e ≡ PageFull (charge_of key (Bytes value)) (free_of page)

-- the frame f, hashed as g is
abbrev pub hashed_as : Frame → Frame → Frame
hashed_as g f = record f { figures = g.figures; hashed = g.hashed }

-- the key's row was put in at the place, and all else in the frame is as before, but perhaps how it
-- is hashed: as a map the leaf is what a put makes of it
pub record PutsRow (f g : Frame) (place : ℕ) (key : FieldList) (value : List ℕ) : Type 0 where
  pub page : PageRows
  pub new : PageRows
  pub had : f.page ≡ Some page
  pub kept : g ≡ hashed_as g (record f { page = Some new })
  pub head : new.head ≡ page.head
  pub absent : value_at key (row_pairs page.rows) ≡ None
  pub there : find_row place new.rows ≡ Some (placed_row place key (Bytes value))
  pub inserts : InsertsRow (Put key value) page.rows new.rows f.clock g.clock
  pub order : IsPageInOrder new

-- the row at the place was put into a frame, which became this one
pub record WasPut (g : Frame) (place : ℕ) : Type 0 where
  pub before : Frame
  pub key : FieldList
  pub value : List ℕ
  pub puts : PutsRow before g place key value

-- the frame has a leaf, on which the key's row stands at the place
pub record HasRowOf (f : Frame) (place : ℕ) (key : FieldList) : Type 0 where
  pub page : PageRows
  pub paged : f.page ≡ Some page
  pub level : page.head.level ≡ 0
  pub has : HasRow page place key

-- so it is with some key
abbrev pub HasSomeRow : Frame → ℕ → Type 0
HasSomeRow f place = (key : FieldList) × HasRowOf f place key

-- the frame without the row at the place, its clock one higher
abbrev pub frame_without : ℕ → Frame → Frame
frame_without place f =
    record f { page = option_map (page_without place) f.page; clock = raised f.clock }

-- what that is to the rows: as a map the leaf is what a del makes of it
pub record TakesRowOut (f : Frame) (place : ℕ) (key : FieldList) : Type 0 where
  pub page : PageRows
  pub had : f.page ≡ Some page
  pub value : List ℕ
  pub has : value_at key (row_pairs page.rows) ≡ Some value
  pub deletes : DeletesRow (Del key) page.rows (page_without place page).rows f.clock
      (frame_without place f).clock
