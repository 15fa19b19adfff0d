-- The pieces of a scan, as its steps tell them.
use Rattle.std.specs.Prelude.{ℕ, ◌≡◌, ◌⊎◌, ◌-◌, Bool, true, false, Option, Some, None, List, [], ◌∷◌, ◌++◌, length}
use Rattle.key_tuple.specs.Order.{FieldList}
use Rattle.key_tuple.specs.KeyPlace.{At}
use Rattle.key_tuple.specs.declared.mode.Mode.TheVariants.{Ge}
use Rattle.latch_space.specs.Passes.{view, count}
use Rattle.map_history.specs.Map.{Map}
use Rattle.map_history.specs.Operation.{Scan}
use Rattle.map_history.specs.Report.{Columns}
use Rattle.map_history.specs.declared.columns.How.{How}
use Rattle.map_history.specs.declared.columns.How.TheVariants as how
use Rattle.map_history.specs.declared.columns.Note.TheVariants as note
use Rattle.map_history.specs.declared.reply.Piece.{Piece}
use Rattle.forest_law.specs.State.{fields_for}
use Rattle.forest_world.specs.Held.{TreePass, shape_of_pass}
use Rattle.call_law.specs.Spoken.{View}
use Rattle.call_law.specs.Trace.{Added, Adds, SparesTrees}
use Rattle.buffer_pool.specs.AsTaken.{AreAsTaken}
use Rattle.tree_descent.specs.declared.descending.Leaf.{Leaf}
use Rattle.tree_descent.specs.Descents.{Descends}
use Rattle.tree_cursor.specs.declared.cursor.Cursor.{Cursor}
use Rattle.tree_cursor.specs.declared.cursor.Restored.TheVariants.{ByClock, BySearch}
use Rattle.tree_cursor.specs.declared.cursor.Stale.{Stale}
use Rattle.tree_cursor.specs.declared.cursor.Stale.TheVariants.{Busy, Moved, Last}
use Rattle.tree_cursor.specs.declared.pieces.Step.{Step}
use Rattle.tree_cursor.specs.Cursors.{Referred}
use Rattle.tree_cursor.specs.EmptyPieces.{HoldsEnd, TellsEmpty}
use Rattle.tree_cursor.specs.Pieces.{TellsPiece}
use Rattle.tree_cursor.specs.Restoring.{Restores}
use Rattle.tree_cursor.specs.Starts.{place_of}
use Rattle.tree_cursor.specs.Storing.{Stores}
use Rattle.index_scans.specs.declared.scan_call.FirstLeaf.{FirstLeaf}

-- the columns of the first piece
abbrev pub columns_first : FirstLeaf → Columns
columns_first leaf = record { how = leaf.how; note = leaf.note }

-- those of a later one, which teaches nothing
abbrev pub columns_later : How → Columns
columns_later word = record { how = word; note = note.Dash }

-- what a step tells, as a piece with these columns
abbrev pub piece_of : Step → Columns → Piece
piece_of step columns =
    record { point = step.point; count = step.count; how = columns.how; note = columns.note }

-- a scan may go on from the cursor: a reference says it, of a leaf of the index, and its key is one of
-- the index and may be refilled with each of them
pub record GoesFrom (v : View) (i : ℕ) (c : Cursor) : Type 0 where
  pub referred : Referred v c
  pub of_index : referred.has.page.index ≡ i
  pub fields : length c.key.tuple ≡ fields_for v.terms.shape i
  pub room : c.key.room ≡ fields_for v.terms.shape i

-- the one piece of a scan whose last leaf has no row from FROM on
pub record TellsNone (p : TreePass) (i : ℕ) (from : FieldList) (to : Option FieldList) (limit : ℕ)
    (leaf : FirstLeaf) (pieces : List Piece) (q : TreePass) : Type 0 where
  pub point : ℕ
  pub last : HoldsEnd (view p) leaf.block i (At from)
  pub tells : TellsEmpty p leaf.block i (Scan from to limit) (At from) (columns_first leaf) point q
  pub pieces_are : pieces
      ≡ record { point = point; count = 0; how = leaf.how; note = leaf.note } ∷ []

-- the first piece was told from the cursor on, as the range that begins at FROM
pub record TellsFirst (p : TreePass) (i : ℕ) (from : FieldList) (to : Option FieldList) (limit : ℕ)
    (leaf : FirstLeaf) (c : Cursor) (end : Bool) (pieces : List Piece) (rows : Map) (c' : Cursor)
    (q : TreePass) : Type 0 where
  pub step : Step
  pub tells : TellsPiece p leaf.block i (Scan from to limit) to c (At from) limit
      (columns_first leaf) [] rows step c' q
  pub end_is : end ≡ step.end
  pub pieces_are : pieces ≡ piece_of step (columns_first leaf) ∷ []

-- it was told so from a cursor that was stored before the first row from FROM on or, where the leaf
-- has none, before its high key
pub record TellsFrom (p : TreePass) (i : ℕ) (from : FieldList) (to : Option FieldList) (limit : ℕ)
    (leaf : FirstLeaf) (end : Bool) (pieces : List Piece) (rows : Map) (c' : Cursor)
    (q : TreePass) : Type 0 where
  pub cursor : Cursor
  pub stored : Stores (view p) leaf.block leaf.place cursor
  pub first : TellsFirst p i from to limit leaf cursor end pieces rows c' q

-- the first piece is the only one, and the scan is at its end; or it goes on from the cursor
abbrev pub TakesFirst : TreePass → ℕ → FieldList → Option FieldList → ℕ → FirstLeaf → Option Cursor
    → List Piece → Map → TreePass → Type 0
TakesFirst p i from to limit leaf None pieces rows q =
    (TellsNone p i from to limit leaf pieces q × (rows ≡ []))
    ⊎ ((c : Cursor) × TellsFrom p i from to limit leaf true pieces rows c q)
TakesFirst p i from to limit leaf (Some c) pieces rows q =
    TellsFrom p i from to limit leaf false pieces rows c q

-- the word for why a cursor's leaf was searched
abbrev pub how_of_stale : Stale → How
how_of_stale (Busy n) = how.ByBusy
how_of_stale (Moved kept found) = how.ByMoved
how_of_stale Last = how.ByLast

-- one restore held the cursor's block
pub record FoundByClock (p : TreePass) (c : Cursor) (b : ℕ) (word : How) (q : TreePass) : Type 0
  where
    pub restored : Restores p c (ByClock b) q
    pub how_is : word ≡ how.ByClock

-- one restore told to search, for a cause, and one way was gone down with the cursor's key
pub record FoundBySearch (p : TreePass) (i : ℕ) (c : Cursor) (b : ℕ) (word : How)
    (q : TreePass) : Type 0 where
  pub between : TreePass
  pub cause : Stale
  pub restored : Restores p c (BySearch cause) between
  pub way : Leaf
  pub went : Descends between i Ge c.key.tuple way q
  pub block_is : b ≡ way.block
  pub how_is : word ≡ how_of_stale cause

-- the leaf from which a scan goes on is in hand
abbrev pub FindsAgain : TreePass → ℕ → Cursor → ℕ → How → TreePass → Type 0
FindsAgain p i c b word q = FoundByClock p c b word q ⊎ FoundBySearch p i c b word q

-- A later piece: with nothing in hand its leaf was found again, and it was told as the range that
-- begins where the cursor stands.
pub record TellsLater (p : TreePass) (i : ℕ) (from : FieldList) (to : Option FieldList) (limit : ℕ)
    (c : Cursor) (rows : Map) (end : Bool) (piece : Piece) (rows' : Map) (c' : Cursor)
    (q : TreePass) : Type 0 where
  pub nothing : count p ≡ 0
  pub block : ℕ
  pub word : How
  pub between : TreePass
  pub finds : FindsAgain p i c block word between
  pub step : Step
  pub tells : TellsPiece between block i (Scan from to limit) to c (place_of c)
      (limit - length rows) (columns_later word) rows rows' step c' q
  pub end_is : end ≡ step.end
  pub piece_is : piece ≡ piece_of step (columns_later word)

-- it was put behind the others
pub record TakesLater (p : TreePass) (i : ℕ) (from : FieldList) (to : Option FieldList) (limit : ℕ)
    (c : Cursor) (pieces : List Piece) (rows : Map) (end : Bool) (pieces' : List Piece)
    (rows' : Map) (c' : Cursor) (q : TreePass) : Type 0 where
  pub piece : Piece
  pub later : TellsLater p i from to limit c rows end piece rows' c' q
  pub pieces_are : pieces' ≡ pieces ++ piece ∷ []

-- nothing was said, no tree was taken, and each frame that kept its page was given back as it was taken
pub record StopsLater (p : TreePass) (i : ℕ) (q : TreePass) : Type 0 where
  pub added : Added
  pub adds : Adds (view p) (view q) added
  pub silent : added.said ≡ []
  pub spares : SparesTrees (shape_of_pass p) added
  pub as_taken : AreAsTaken added.references

-- pieces one after another, of which none ends the scan, each from the cursor that the one before left
abbrev pub GoesOnBy : ℕ → FieldList → Option FieldList → ℕ → TreePass → Cursor → Map → List Piece
    → TreePass → Cursor → Map → Type 0
GoesOnBy i from to limit p c rows [] q d rows' = (p ≡ q) × (c ≡ d) × (rows ≡ rows')
GoesOnBy i from to limit p c rows (piece ∷ more) q d rows' =
    (s : TreePass) × (e : Cursor) × (between : Map)
    × TellsLater p i from to limit c rows false piece between e s
    × GoesOnBy i from to limit s e between more q d rows'

-- such pieces, and then one that ends the scan, were put behind the others
pub record GoesToEnd (p : TreePass) (i : ℕ) (from : FieldList) (to : Option FieldList) (limit : ℕ)
    (c : Cursor) (pieces : List Piece) (rows : Map) (pieces' : List Piece) (rows' : Map)
    (q : TreePass) : Type 0 where
  pub going : List Piece
  pub between : TreePass
  pub cursor : Cursor
  pub so_far : Map
  pub goes : GoesOnBy i from to limit p c rows going between cursor so_far
  pub last : Piece
  pub after : Cursor
  pub ends : TellsLater between i from to limit cursor so_far true last rows' after q
  pub pieces_are : pieces' ≡ pieces ++ (going ++ last ∷ [])

-- such pieces were put behind the others, and then memory lacked
pub record GoesUntil (p : TreePass) (i : ℕ) (from : FieldList) (to : Option FieldList) (limit : ℕ)
    (c : Cursor) (pieces : List Piece) (rows : Map) (pieces' : List Piece) (rows' : Map)
    (q : TreePass) : Type 0 where
  pub going : List Piece
  pub between : TreePass
  pub cursor : Cursor
  pub goes : GoesOnBy i from to limit p c rows going between cursor rows'
  pub stops : StopsLater between i q
  pub pieces_are : pieces' ≡ pieces ++ going
