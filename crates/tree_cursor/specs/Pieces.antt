-- A piece of a scan: the rows of one leaf, told at one point.
use Rattle.std.specs.Prelude.{ℕ, ◌≡◌, ◌≢◌, ◌⊎◌, ◌≤◌, ◌<◌, ◌-◌, true, false, not, Option, Some, None, List, [], ◌∷◌, length, option_map}
use Rattle.std.specs.List.{AllByRecursion, filter}
use mathlib.Core.Option.{some}
use denote.Ref.{Bor}
use lib.ListN.{get_elem?}
use Rattle.key_tuple.specs.Order.{FieldList}
use Rattle.key_tuple.specs.KeyPlace.{KeyPlace, At, before}
use Rattle.key_tuple.specs.Parts.{Buffered}
use Rattle.latch_space.specs.Passes.{view}
use Rattle.map_history.specs.Map.{Map}
use Rattle.map_history.specs.Operation.{Ask, Scan}
use Rattle.map_history.specs.Report.{Columns}
use Rattle.index_page.specs.Page.{PageRows}
use Rattle.index_page.specs.Rows.{Row}
use Rattle.tree_law.specs.Pages.{row_pairs}
use Rattle.clock_law.specs.ModifyClock.{last_clock}
use Rattle.page_view.specs.declared.taking.Stop.{Stop}
use Rattle.page_view.specs.Taking.{TakesRows}
use Rattle.index_law.specs.Shape.{Shape}
use Rattle.index_law.specs.State.{Entries}
use Rattle.forest_law.specs.declared.objects.Frame.{Frame}
use Rattle.forest_law.specs.Numbers.{frame_id}
use Rattle.forest_law.specs.State.{bound, page_within, fields_for}
use Rattle.forest_world.specs.Held.{TreePass, shape_of_pass}
use Rattle.call_law.specs.Spoken.{View}
use Rattle.call_law.specs.Trace.{Added, frame_references}
use Rattle.buffer_pool.specs.AsTaken.{KeepsAsHeld}
use Rattle.buffer_pool.specs.Calls.{Does}
use Rattle.tree_facts.specs.TreeFrames.{low_of, high_of}
use Rattle.tree_descent.specs.Ways.{HoldsPage}
use Rattle.tree_neighbours.specs.declared.side.Side.TheVariants.{Right}
use Rattle.tree_neighbours.specs.LeafHands.{IsLeafReference}
use Rattle.tree_neighbours.specs.Neighbours.{IsLeafBeside}
use Rattle.scan_law.specs.ScanLaws.{ReadRange}
use Rattle.scan_law.specs.SaidScans.{IsRangeFor, EndsScan}
use Rattle.said_scans.specs.Ranges.{range_said}
use Rattle.tree_cursor.specs.declared.cursor.Cursor.{Cursor}
use Rattle.tree_cursor.specs.declared.pieces.Step.{Step}
use Rattle.tree_cursor.specs.Cursors.{StandsAt, StandsIn, Referred}
use Rattle.tree_cursor.specs.Fills.{is_past_at, HasRowPast, StandsBehind}
use Rattle.tree_cursor.specs.Starts.{place_of}

-- the fields of a tuple that is lent, if one is
abbrev pub fields_lent : Option (Bor Buffered) → Option FieldList
fields_lent tuple = option_map (λ t. t.now.fields) tuple

-- how many fields it has, none where there is no tuple
abbrev pub count_lent : Option (Bor Buffered) → ℕ
count_lent None = 0
count_lent (Some t) = length t.now.fields

-- what a scan asks for, by what is lent
abbrev pub scan_lent : Bor Buffered → Option (Bor Buffered) → ℕ → Ask
scan_lent from to limit = Scan from.now.fields (fields_lent to) limit

-- the rows that aren't before the place
abbrev pub rows_not_before : KeyPlace → List Row → List Row
rows_not_before place rows = filter (λ (x : Row). not (before (At x.key) place)) rows

-- the pass holds a leaf of the index in the block's frame, on which the cursor stands. The place is
-- within the leaf's bounds, or their end, and no row of the leaf is between it and the cursor
pub record HoldsStand (v : View) (b i : ℕ) (c : Cursor) (place : KeyPlace) : Type 0 where
  pub holds : HoldsPage v b i 0
  pub inside : StandsIn (page_within holds.is.page holds.frame.low holds.frame.high) c.key.tuple
      c.after
  pub at : b ≡ c.block → holds.frame.clock ≡ c.clock → c.clock < last_clock
      → StandsAt (page_within holds.is.page holds.frame.low holds.frame.high) c.place c.key.tuple
      c.after
  pub low : before place (low_of holds.frame) ≡ false
  pub high : before (high_of holds.frame) place ≡ false
  pub none_between : AllByRecursion
      (λ (x : Row). before (At x.key) place ≡ before (At x.key) (place_of c)) holds.is.page.rows
  pub fields : length c.key.tuple ≡ fields_for v.terms.shape i
  pub room : c.key.room ≡ fields_for v.terms.shape i

-- rows may be taken of the leaf in hand, if it has some that aren't before the place, or no leaf is
-- behind it
pub record IsHeldLeaf (b : ℕ) (f : Frame) (page : PageRows) (place : KeyPlace) (m : ℕ) (g : Frame)
    (rows : List Row) : Type 0 where
  pub block : m ≡ b
  pub frame : g ≡ f
  pub rows_are : rows ≡ rows_not_before place page.rows
  pub why : (rows ≢ []) ⊎ (page.head.next ≡ None)

-- or of the leaf behind it, if it has none
pub record IsNextLeaf (shape : Shape) (b i : ℕ) (f : Frame) (page : PageRows) (place : KeyPlace)
    (m : ℕ) (g : Frame) (rows : List Row) : Type 0 where
  pub none : rows_not_before place page.rows ≡ []
  pub beside : IsLeafBeside shape Right b i f m g
  pub leads : page.head.next ≡ Some beside.is.page.head.number
  pub rows_are : rows ≡ beside.is.page.rows

-- the leaf of which a piece takes rows, with those that it may take
pub record LeafTaken (shape : Shape) (b i : ℕ) (f : Frame) (page : PageRows)
    (place : KeyPlace) : Type 0 where
  pub block : ℕ
  pub frame : Frame
  pub rows : List Row
  pub which : IsHeldLeaf b f page place block frame rows
      ⊎ IsNextLeaf shape b i f page place block frame rows

-- n rows of these, of a leaf with this high key, end a scan with so many left: they are as many, or
-- one of the rows isn't below TO, or no key behind the leaf is
abbrev pub IsEnd : Option FieldList → (left n : ℕ) → List Row → Option FieldList → Type 0
IsEnd to left n rows high = (n ≡ left) ⊎ HasRowPast to rows ⊎ (is_past_at to high ≡ true)

-- the scan goes on from the cursor: it stands behind what was taken, where the range ends, and one
-- of the pass's references says it, of a leaf of the index; its key may be refilled as before
pub record GoesOn (v : View) (i : ℕ) (f : Frame) (taken : List Row) (b : ℕ) (high : KeyPlace)
    (old new : Cursor) : Type 0 where
  pub block : new.block ≡ b
  pub stands : StandsBehind f taken new
  pub ends : high ≡ place_of new
  pub referred : Referred v new
  pub of_index : referred.has.page.index ≡ i
  pub fields : length new.key.tuple ≡ length old.key.tuple
  pub room : new.key.room ≡ old.key.room

-- A piece was told: rows of one leaf, as many as are left, or up to the first that isn't below TO, or
-- all. This alone was said, of the range from the place on, at a point no less than what was seen,
-- and which is seen then. Nothing is held, and leaves of the index were given back, no tree, as they
-- were in hand or were taken.
pub record TellsPiece (p : TreePass) (b i : ℕ) (ask : Ask) (to : Option FieldList) (c : Cursor)
    (place : KeyPlace) (left : ℕ) (columns : Columns) (old new : Map) (step : Step) (c' : Cursor)
    (q : TreePass) : Type 0 where
  pub holds : HoldsPage (view p) b i 0
  pub leaf : LeafTaken (shape_of_pass p) b i holds.frame holds.is.page (place_of c)
  pub stop : Stop
  pub took : TakesRows leaf.rows to left old new stop
  pub range : ReadRange
  pub low : range.low ≡ place
  pub piece : range.piece ≡ record {
    point = step.point;
    rows = row_pairs took.taken;
    columns = columns;
  }
  pub count : step.count ≡ length took.taken
  pub is_for : IsRangeFor to range
  pub added : Added
  pub does : Does p q (frame_id (shape_of_pass p) b ∷ []) added
  pub said : added.said ≡ range_said i (view p).low ask range ∷ []
  pub leaves : AllByRecursion (IsLeafReference (shape_of_pass p) i)
      (frame_references added.references)
  pub keeps : KeepsAsHeld (view p) (view q) added.references
  pub least : (ys : Entries) → get_elem? (view p).seen i ≡ some ys → length ys ≤ step.point
  pub most : (zs : Entries) → get_elem? (view q).seen i ≡ some zs → step.point ≤ length zs
  pub end_has_cause : step.end ≡ true
      → IsEnd to left step.count leaf.rows (bound leaf.frame.high)
  pub cause_ends : IsEnd to left step.count leaf.rows (bound leaf.frame.high) → step.end ≡ true
  pub ends : step.end ≡ true → EndsScan to (left - step.count) range.high
  pub goes_on : step.end ≡ false
      → GoesOn (view q) i leaf.frame took.taken leaf.block range.high c c'

-- memory lacked: nothing was said, and leaves of the index were given back, no tree, as they were in
-- hand or were taken
pub record GivesUp (p : TreePass) (b i : ℕ) (q : TreePass) : Type 0 where
  pub added : Added
  pub does : Does p q (frame_id (shape_of_pass p) b ∷ []) added
  pub silent : added.said ≡ []
  pub leaves : AllByRecursion (IsLeafReference (shape_of_pass p) i)
      (frame_references added.references)
  pub keeps : KeepsAsHeld (view p) (view q) added.references
