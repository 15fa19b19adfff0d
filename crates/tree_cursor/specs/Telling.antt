-- A piece that is told of a leaf in hand.
use Rattle.std.specs.Prelude.{ℕ, ◌≡◌, ◌≢◌, Bool, true, false, if◌then◌else◌, Option, Some, None, [], ◌∷◌, length}
use Rattle.std.specs.List.{AllByRecursion}
use Rattle.key_tuple.specs.Order.{FieldList}
use Rattle.key_tuple.specs.KeyPlace.{KeyPlace, At, End, before}
use Rattle.latch_law.specs.Fitting.{DidRead}
use Rattle.latch_space.specs.Has.{SameHands}
use Rattle.latch_space.specs.Passes.{view}
use Rattle.map_history.specs.Map.{Map}
use Rattle.map_history.specs.Operation.{Ask}
use Rattle.map_history.specs.Report.{Columns}
use Rattle.index_page.specs.Rows.{Row, first_of_rows, IsAt}
use Rattle.tree_law.specs.Pages.{row_pairs}
use Rattle.page_view.specs.Taking.{IsPlaceIn, rows_from_place}
use Rattle.index_law.specs.Answers.{Piece}
use Rattle.index_law.specs.Rightness.{IsRight}
use Rattle.forest_law.specs.Law.{IsLawful}
use Rattle.forest_law.specs.References.{IsReference}
use Rattle.forest_law.specs.State.{fields_for}
use Rattle.forest_world.specs.Held.{TreePass}
use Rattle.call_law.specs.Spoken.{View}
use Rattle.buffer_pool.specs.Frames.{GivesFrame}
use Rattle.tree_facts.specs.TreeFrames.{high_of}
use Rattle.tree_descent.specs.Ways.{HoldsPage}
use Rattle.scan_law.specs.AfterKey.{after_key}
use Rattle.tree_cursor.specs.declared.cursor.Cursor.{Cursor}
use Rattle.tree_cursor.specs.declared.filling.Ending.{Ending}
use Rattle.tree_cursor.specs.declared.filling.Ending.TheVariants.{Full, Past, Onward}
use Rattle.tree_cursor.specs.declared.pieces.Step.{Step}
use Rattle.tree_cursor.specs.Fills.{Fills}
use Rattle.tree_cursor.specs.MapRows.{AreMapRows}
use Rattle.tree_cursor.specs.Starts.{place_of}

-- the pass holds a leaf of the index, whose rows from a place on are the map's from `low` up to the
-- leaf's end, and the cursor may be moved to it
pub record MayTell (v : View) (b i : ℕ) (start : Option ℕ) (low : KeyPlace)
    (c : Cursor) : Type 0 where
  pub holds : HoldsPage v b i 0
  pub there : IsPlaceIn holds.is.page.rows start
  pub map_rows : AreMapRows v i low (high_of holds.frame)
      (row_pairs (rows_from_place start holds.is.page.rows))
  pub later : AllByRecursion (λ (x : Row). before (At x.key) low ≡ false)
      (rows_from_place start holds.is.page.rows)
  pub high : before (high_of holds.frame) low ≡ false
  pub fields : length c.key.tuple ≡ fields_for v.terms.shape i
  pub room : c.key.room ≡ fields_for v.terms.shape i

-- it holds two leaves of the index, and all rows of the second are the map's from `low` up to its
-- end
pub record MayTellNext (v : View) (b m i : ℕ) (low : KeyPlace) (c : Cursor) : Type 0 where
  pub held : HoldsPage v b i 0
  pub holds : HoldsPage v m i 0
  pub other : m ≢ b
  pub map_rows : AreMapRows v i low (high_of holds.frame) (row_pairs holds.is.page.rows)
  pub later : AllByRecursion (λ (x : Row). before (At x.key) low ≡ false) holds.is.page.rows
  pub high : before (high_of holds.frame) low ≡ false
  pub fields : length c.key.tuple ≡ fields_for v.terms.shape i
  pub room : c.key.room ≡ fields_for v.terms.shape i

-- the key of the last row, none of no rows
abbrev pub last_key_after : FieldList → Map → FieldList
last_key_after key [] = key
last_key_after key (e ∷ m) = last_key_after e.key m

-- where a range from `low` ends that reaches TO or, where there is no TO, the end of all keys
abbrev pub end_at : Option FieldList → KeyPlace → KeyPlace
end_at None low = End
end_at (Some to) low = if before low (At to) then At to else low

-- where the range of a piece ends: just behind the last row where no more are asked for, at TO, or
-- where the cursor stands
abbrev pub end_of : Option FieldList → KeyPlace → Map → Cursor → Ending → KeyPlace
end_of to low rows c Full = after_key (last_key_after [] rows)
end_of to low rows c Past = end_at to low
end_of to low rows c Onward = place_of c

-- the scan is at its end
abbrev pub is_end : Ending → Bool
is_end Full = true
is_end Past = true
is_end Onward = false

-- the piece was told of the leaf in hand: its first rows from a place on, as those of a range from
-- `low`
pub record TellsLeaf (p : TreePass) (b i : ℕ) (h : HoldsPage (view p) b i 0) (start : Option ℕ)
    (low : KeyPlace) (ask : Ask) (to : Option FieldList) (left : ℕ) (columns : Columns)
    (old new : Map) (step : Step) (c c' : Cursor) (q : TreePass) : Type 0 where
  pub ending : Ending
  pub fills : Fills h.frame h.is.page b start to left old new ending c c'
  pub count : step.count ≡ length fills.took.taken
  pub end_is : step.end ≡ is_end ending
  pub did : DidRead IsLawful IsRight IsReference (view p) i
      (Piece ask low (end_of to low (row_pairs fills.took.taken) c' ending)
      (row_pairs fills.took.taken) None columns) step.point (view q)
  pub kept : SameHands p q

-- it was told, and then the leaf was given back
pub record TellsAndGives (p : TreePass) (b i : ℕ) (start : Option ℕ) (low : KeyPlace) (ask : Ask)
    (to : Option FieldList) (left : ℕ) (columns : Columns) (old new : Map) (step : Step)
    (c c' : Cursor) (q : TreePass) : Type 0 where
  pub between : TreePass
  pub tells : (h : HoldsPage (view p) b i 0)
      → TellsLeaf p b i h start low ask to left columns old new step c c' between
  pub gave : GivesFrame between b q

-- two leaves were given back, one after the other
pub record GivesBoth (p : TreePass) (b m : ℕ) (q : TreePass) : Type 0 where
  pub between : TreePass
  pub first : GivesFrame p b between
  pub second : GivesFrame between m q

-- it was told of the leaf m, from its first row on, while the leaf b was held too, and then both were
-- given back
pub record TellsAndGivesBoth (p : TreePass) (b m i : ℕ) (low : KeyPlace) (ask : Ask)
    (to : Option FieldList) (left : ℕ) (columns : Columns) (old new : Map) (step : Step)
    (c c' : Cursor) (q : TreePass) : Type 0 where
  pub start : Option ℕ
  pub first : (h : HoldsPage (view p) m i 0) → IsAt h.is.page.rows start
      (first_of_rows h.is.page.rows)
  pub between : TreePass
  pub tells : (h : HoldsPage (view p) m i 0)
      → TellsLeaf p m i h start low ask to left columns old new step c c' between
  pub gave : GivesBoth between b m q
