-- Rows of a leaf that are taken for a piece, and how the piece ends.
use Rattle.std.specs.Prelude.{ℕ, ◌≡◌, ◌⊎◌, ◌<◌, Bool, true, false, not, Option, Some, None, IsSome, List, [], ◌∷◌, length}
use Rattle.key_tuple.specs.Order.{FieldList}
use Rattle.key_tuple.specs.KeyPlace.{At}
use Rattle.map_history.specs.Map.{Map}
use Rattle.map_history.specs.Scans.{is_below}
use Rattle.index_page.specs.Page.{PageRows, IsPageInOrder}
use Rattle.index_page.specs.Rows.{Row, find_row, last_of_rows, last_row_after, IsAt}
use Rattle.tree_law.specs.Pages.{HasFields}
use Rattle.tree_law.specs.TreeShape.{In}
use Rattle.page_view.specs.declared.taking.Stop.{Stop}
use Rattle.page_view.specs.Taking.{IsPlaceIn, rows_from_place, TakesRows}
use Rattle.forest_law.specs.declared.objects.Frame.{Frame}
use Rattle.forest_law.specs.State.{bound, page_within}
use Rattle.tree_cursor.specs.declared.cursor.Cursor.{Cursor}
use Rattle.tree_cursor.specs.declared.filling.Ending.{Ending}
use Rattle.tree_cursor.specs.declared.filling.Ending.TheVariants.{Full, Past, Onward}
use Rattle.tree_cursor.specs.Cursors.{StandsAt}

-- the frame has a leaf with a row at the place, if one is given, and the cursor's key may be refilled
-- with the keys of that leaf
pub record MayFill (f : Frame) (page : PageRows) (start : Option ℕ) (c : Cursor) : Type 0 where
  pub paged : f.page ≡ Some page
  pub level : page.head.level ≡ 0
  pub there : IsPlaceIn page.rows start
  pub high : HasFields page.head.fields (bound f.high)
  pub fields : length c.key.tuple ≡ page.head.fields
  pub room : c.key.room ≡ page.head.fields

-- no key from the bound on is below TO
abbrev pub is_past_at : Option FieldList → Option FieldList → Bool
is_past_at to None = true
is_past_at to (Some key) = not (is_below to (At key))

-- one of the rows isn't below TO
pub record HasRowPast (to : Option FieldList) (rows : List Row) : Type 0 where
  pub row : Row
  pub among : In row rows
  pub past : is_below to (At row.key) ≡ false

-- the cursor stands behind the last of the rows or, where there is none, before the frame's high key
abbrev pub StandsBehind : Frame → List Row → Cursor → Type 0
StandsBehind f [] c = (bound f.high ≡ Some c.key.tuple) × (c.after ≡ false)
StandsBehind f (x ∷ xs) c = (c.key.tuple ≡ (last_row_after x xs).key) × (c.after ≡ true)

-- the cursor has moved to the frame with this page in the block, behind these rows; its key has as
-- many fields as before and may be refilled as before
pub record Moves (f : Frame) (page : PageRows) (b : ℕ) (rows : List Row)
    (old new : Cursor) : Type 0 where
  pub block : new.block ≡ b
  pub clock : f.clock ≡ new.clock
  pub number : page.head.number ≡ new.page
  pub behind : StandsBehind f rows new
  pub at : StandsAt (page_within page f.low f.high) new.place new.key.tuple new.after
  pub fields : length new.key.tuple ≡ length old.key.tuple
  pub room : new.key.room ≡ old.key.room

-- how the taking of some rows ends: they are as many as are left; or they are fewer, and a row isn't
-- below TO, or no key behind the leaf is; or they are fewer, and all rows, and the cursor has moved
-- behind them
abbrev pub EndsBy : Frame → PageRows → (b : ℕ) → Option FieldList → (left : ℕ)
    → (rows taken : List Row) → Ending → (old new : Cursor) → Type 0
EndsBy f page b to left rows taken Full old new = (length taken ≡ left) × (new ≡ old)
EndsBy f page b to left rows taken Past old new = (length taken < left)
    × (HasRowPast to rows ⊎ (is_past_at to (bound f.high) ≡ true)) × (new ≡ old)
EndsBy f page b to left rows taken Onward old new = (length taken < left) × (taken ≡ rows)
    × (is_past_at to (bound f.high) ≡ false) × Moves f page b rows old new

-- the first of the rows of a page from a place on were taken, and it is told how that ends
pub record Fills (f : Frame) (page : PageRows) (b : ℕ) (start : Option ℕ) (to : Option FieldList)
    (left : ℕ) (old new : Map) (ending : Ending) (c c' : Cursor) : Type 0 where
  pub order : IsPageInOrder page
  pub stop : Stop
  pub took : TakesRows (rows_from_place start page.rows) to left old new stop
  pub ends : EndsBy f page b to left (rows_from_place start page.rows) took.taken ending c c'

-- the cursor may be moved behind the row at a place, or before the high key where no place is named
pub record MayMove (f : Frame) (page : PageRows) (last : Option ℕ) (c : Cursor) : Type 0 where
  pub there : IsPlaceIn page.rows last
  pub some : last ≡ None → IsSome (bound f.high)
  pub high : HasFields page.head.fields (bound f.high)
  pub fields : length c.key.tuple ≡ page.head.fields
  pub room : c.key.room ≡ page.head.fields

-- the place of the last row where a row stands at `start`, and none where no place is given
abbrev pub IsLastFrom : List Row → (start last : Option ℕ) → Type 0
IsLastFrom rows None last = last ≡ None
IsLastFrom rows (Some place) last = IsAt rows last (last_of_rows rows)

-- the key is that of the row at the place, behind which the cursor stands; or the high key, before
-- which it stands
abbrev pub IsMovedTo : Frame → List Row → Option ℕ → (key : FieldList) → (after : Bool) → Type 0
IsMovedTo f rows None key after = (bound f.high ≡ Some key) × (after ≡ false)
IsMovedTo f rows (Some place) key after = ((row : Row) × (find_row place rows ≡ Some row) × (key ≡ row.key))
    × (after ≡ true)

-- so it has moved
pub record MovesTo (f : Frame) (page : PageRows) (b : ℕ) (last : Option ℕ)
    (old new : Cursor) : Type 0 where
  pub block : new.block ≡ b
  pub clock : new.clock ≡ f.clock
  pub number : new.page ≡ page.head.number
  pub place : new.place ≡ last
  pub to : IsMovedTo f page.rows last new.key.tuple new.after
  pub fields : length new.key.tuple ≡ length old.key.tuple
  pub room : new.key.room ≡ old.key.room
